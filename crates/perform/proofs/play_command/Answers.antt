use native.Mathlib.Omega.{arith}
use Rattle.std.proofs.Common.{sym, ◌∙◌}
use Rattle.std.proofs.lemmas.Result.{err_from_is_err_and}
use Rattle.play.specs.laws.Changes.{head_of, world_of, changed}
use Rattle.play.proofs.laws.CallLaws.{acts_read, acts_played, refused_told}
use Rattle.perform.proofs.play_command.Goals as goal

pub actor-own-requires : goal.actor-own-requires
unfolding head_of
actor-own-requires c = omega (arith, c.requires.low)

pub site-requires : goal.site-requires
unfolding head_of
site-requires c = omega (arith, c.actor-own.ensures.1, c.requires.high)

pub act-requires : goal.act-requires
act-requires c = rw c.head_of.ensures c.requires

pub returns-in_err-change : goal.returns-in_err-change
unfolding head_of world_of
returns-in_err-change c =
    let w = c.args.world in
    let p = err_from_is_err_and c.from_residual.result c.from_residual.ensures.1 in
    let r =
    acts_played w.sites (head_of w) c.args.store.now c.args.list.now c.args.at c.read_command-reading.result c.actor-own.result
    c.site.result _ c.act.new.store c.read_command-reading.ensures.0 c.actor-own.ensures.0 c.site.ensures
    (acts_read _ _ _ _ _ _ _ (rw c.head_of.ensures at c.in_err-change.ensures)) in
    rw (p.1, p.2) (record { played = sym (refused_told w c.actor-own.result _ _ c.site.result c.site.ensures) ∙ r.0; stored = r.1 })

pub put-requires : goal.put-requires
unfolding head_of
put-requires c = omega (arith, c.actor-own.ensures.1, c.requires.high)

pub returns : goal.returns
unfolding head_of world_of changed
returns c =
    let w = c.args.world in
    let r =
    acts_played w.sites (head_of w) c.args.store.now c.args.list.now c.args.at c.read_command-reading.result c.actor-own.result
    c.site.result _ c.act.new.store c.read_command-reading.ensures.0 c.actor-own.ensures.0 c.site.ensures
    (acts_read _ _ _ _ _ _ _ (rw c.head_of.ensures at c.in_ok-change.ensures)) in
    rw c.put.ensures (record { played = r.0; stored = r.1 })
