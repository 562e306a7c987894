use native.Mathlib.Omega.{arith}
use Rattle.std.proofs.Common.{rules, ◌≡◌, refl, Ok, Err}
use Rattle.play.proofs.laws.CallLaws.{read_refused, read_named, read_unnamed}
use Rattle.act.proofs.acts.act.Goals as goal

pub returns-in_default : goal.returns-in_default
returns-in_default c d =
    let a = d.args in
    let read : a.reading ≡ Err d.unwrap_err.result = search rules in
    read_refused c.E.From.from_gives a.reading a.at a.head a.site _ a.store.now d.unwrap_err.result read refl

pub returns-then-head-named_site : goal.returns-then-head-named_site
returns-then-head-named_site c d =
    let a = d.args in
    read_unnamed c.E.From.from_gives a.reading a.at a.head a.site _ a.store.now _ d.from.result d.in-Ok.is
    (omega (arith, d.requires.low)) (rw d.named_site.ensures at d.if-head-named_site.true) refl (rw d.at.ensures at d.from.ensures)

pub returns-in-Ok-perform : goal.returns-in-Ok-perform
returns-in-Ok-perform c d =
    let a = d.args in
    read_named c.E.From.from_gives a.reading a.at a.head a.site _ a.store.now _ d.perform.new.store (Ok d.in-Ok-perform.change)
    d.in-Ok.is (rw d.named_site.ensures at d.if-head-named_site.false) refl (d.in-Ok-perform.ensures a.at)

pub returns-in-Err : goal.returns-in-Err
returns-in-Err c d =
    let a = d.args in
    read_named c.E.From.from_gives a.reading a.at a.head a.site _ a.store.now _ d.perform.new.store
    (Err (record { reason = d.in-Err.reason; place = a.at })) d.in-Ok.is (rw d.named_site.ensures at d.if-head-named_site.false)
    (d.from-in-Err.result, refl, rw d.at-in-Err.ensures at d.from-in-Err.ensures) (d.in-Err.ensures a.at)
