use native.Mathlib.Omega.{arith}
use mathlib.Core.Path.{refl}
use Rattle.refusals.specs.laws.RefusalLaws.{number-some}
use Rattle.header.specs.laws.HeaderLaws.{headed}
use Rattle.world.specs.laws.PartLaws.{site_of-within}
use Rattle.play.specs.laws.Changes.{head_of, changed}
use Rattle.play.proofs.laws.CallLaws.{acts_read}
use Rattle.list.specs.Play.{play_list}
use Rattle.list.specs.laws.Loop.{loop_begins, loop_ends}
use Rattle.list.specs.laws.LoopLaws.{may_act, changes_on, changes_past, changes_out}
use Rattle.list.proofs.whole.play_commands.Goals as goal

pub loop-at-init : goal.loop-at-init
loop-at-init c = let e = c.requires in (rw (e.0, e.1) (loop_begins c.args.store.now c.args.list.now e.2 e.3), refl)

pub actor-own-requires : goal.actor-own-requires
unfolding head_of
actor-own-requires c = let l = c.loop-at in omega (arith, (may_act l.world l.invariant.0).low)

pub offset_bounds-world-own : goal.offset_bounds-world-own
unfolding head_of
offset_bounds-world-own c = let l = c.loop-at in omega (arith, c.actor-own.ensures.1, (may_act l.world l.invariant.0).high)

pub bounds-world-own : goal.bounds-world-own
unfolding head_of
bounds-world-own c = let l = c.loop-at in omega (arith, c.actor-own.ensures.1, (may_act l.world l.invariant.0).high)

pub act-requires : goal.act-requires
act-requires c = rw c.head_of.ensures (may_act c.loop-at.world c.loop-at.invariant.0)

pub put-requires : goal.put-requires
unfolding head_of
put-requires c = let l = c.loop-at in omega (arith, c.actor-own.ensures.1, (may_act l.world l.invariant.0).high)

pub overflow_add-events : goal.overflow_add-events
overflow_add-events c =
    let h = headed c.args.list.now c.requires.2 in
    omega (arith, c.loop-at.invariant.0.few, c.loop-at-test.true, h)

pub loop-at-smaller : goal.loop-at-smaller
unfolding head_of
loop-at-smaller c =
    let past =
    let w = c.loop-at.world in
    let i = c.loop-at.invariant.0 in
    let own = c.actor-own in
    changes_past w _ c.act.new.store i c.loop-at-test.true c.read_command-reading.ensures.0 own.ensures.0
    (site_of-within w own.result _ (omega (arith, own.ensures.1, (may_act w i).high, i.shaped.sites)))
    (acts_read _ _ _ _ _ _ _ (rw c.head_of.ensures at c.in-Ok.ensures)) refl in
    omega arith

pub loop-at-preserved : goal.loop-at-preserved
unfolding head_of changed
loop-at-preserved c = (
  let w = c.loop-at.world in
      let i = c.loop-at.invariant.0 in
      let own = c.actor-own in
      rw c.put.ensures
      (changes_on w _ c.act.new.store i c.loop-at-test.true c.read_command-reading.ensures.0 own.ensures.0
      (site_of-within w own.result _ (omega (arith, own.ensures.1, (may_act w i).high, i.shaped.sites)))
      (acts_read _ _ _ _ _ _ _ (rw c.head_of.ensures at c.in-Ok.ensures)) refl),
  omega arith,
)

pub returns-in-Err : goal.returns-in-Err
unfolding head_of
returns-in-Err c =
    let o =
    let w = c.loop-at.world in
    let i = c.loop-at.invariant.0 in
    let own = c.actor-own in
    changes_out w _ c.act.new.store i c.loop-at-test.true c.read_command-reading.ensures.0 own.ensures.0
    (site_of-within w own.result _ (omega (arith, own.ensures.1, (may_act w i).high, i.shaped.sites)))
    (acts_read _ _ _ _ _ _ _ (rw c.head_of.ensures at c.in-Err.ensures)) (number-some c.in-Err.refusal.reason) in
    record { played = o.played; stored = o.kept }

pub returns : goal.returns
returns c =
    let l = c.loop-at in
    let o =
    loop_ends (play_list c.args.store.now c.args.list.now) l.world l.store c.args.list.now l.at l.events l.invariant.0 c.loop-at-test.false in
    record { played = o.played; stored = o.kept }
