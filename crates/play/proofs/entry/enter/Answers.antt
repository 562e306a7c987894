use native.Mathlib.Omega.{arith}
use Rattle.std.specs.Prelude.{◌≡◌, Option, Some, None}
use Rattle.std.proofs.lemmas.Result.{err_from_is_err_and}
use Rattle.row.specs.declared.message.Message.{Message}
use Rattle.row.specs.Rows.{no_row}
use Rattle.row.specs.Messages.{row_of}
use Rattle.row.specs.laws.MessageLaws.{kind-some}
use Rattle.rules.specs.declared.Step.{Step}
use Rattle.rules.specs.Steps.{stepped}
use Rattle.play.proofs.laws.CallLaws.{acts_silent, acts_row, acts_full, acts_past-silent, acts_past-row}
use Rattle.play.proofs.entry.enter.Goals as goal

silent : (step : Step) → step.sent ≡ None → (stepped step).row.kind ≡ 0
unfolding no_row
silent step e = rw e

sends : (step : Step) (m : Message) → step.sent ≡ Some m → (stepped step).row.kind ≡ 0 → ⊥
sends step m e = rw e (kind-some m.kind)

pub returns-in_err-add_news : goal.returns-in_err-add_news
returns-in_err-add_news c = λ own at site records.
    let a = c.args in
    let p = err_from_is_err_and c.from_residual.result c.from_residual.ensures.1 in
    let e = c.in_err-add_news.ensures.err in
    rw (p.1, p.2, e.0) (acts_past-silent a.head own site (stepped a.step) records a.store.now at a.next (silent a.step c.in_default.is) e.1)

pub returns-in_default : goal.returns-in_default
returns-in_default c = λ own at site records.
    let a = c.args in
    let e = c.in_ok-add_news.ensures.ok in
    rw e.0 (acts_silent a.head own site (stepped a.step) records a.store.now at a.next (silent a.step c.in_default.is) e.1)

pub returns-then-head-ge-ROWS : goal.returns-then-head-ge-ROWS
returns-then-head-ge-ROWS c = λ own at site records.
    let a = c.args in
    acts_full a.head own site (stepped a.step) records a.store.now at a.next (sends a.step _ c.in-Some.is) c.if-head-ge-ROWS.true

pub returns-in_err-news : goal.returns-in_err-news
returns-in_err-news c = λ own at site records.
    let a = c.args in
    let p = err_from_is_err_and c.from_residual-in_err-news.result c.from_residual-in_err-news.ensures.1 in
    let e = c.in_err-news.ensures.err in
    rw (p.1, p.2, e.0) (acts_past-row a.head own site (stepped a.step) records a.store.now at a.next (sends a.step _ c.in-Some.is) c.if-head-ge-ROWS.false e.1)

pub returns : goal.returns
returns c = λ own at site records.
    let a = c.args in
    let e = c.in_ok-news.ensures.ok in
    let sent = acts_row a.head own site (stepped a.step) records a.store.now at a.next (sends a.step _ c.in-Some.is) c.if-head-ge-ROWS.false e.1 in
    let row : (stepped a.step).row ≡ row_of c.in-Some.message = rw c.in-Some.is in
    rw (e.0, c.put_row.ensures, c.from.ensures, ← row) sent
