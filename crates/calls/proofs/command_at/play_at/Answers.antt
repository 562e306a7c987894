use native.Mathlib.Omega.{arith}
use mathlib.Core.Path.{refl}
use Rattle.refusals.specs.laws.RefusalLaws.{number-some}
use Rattle.play.proofs.laws.CallLaws.{acts_read}
use Rattle.layout.proofs.laws.LayoutLaws.{inside-length}
use Rattle.calls.specs.Calls.{leave}
use Rattle.calls.specs.laws.CommandLaws.{playable_ready, change_refused, change_accepted}
use Rattle.calls.proofs.command_at.play_at.Goals as goal

pub head_at-head-requires : goal.head_at-head-requires
head_at-head-requires c = inside-length _ c.requires.inside

pub actor-own-requires : goal.actor-own-requires
actor-own-requires c = omega (arith, (playable_ready _ _ _ _ c.requires c.head_at-head.ensures).low)

pub site_place-requires : goal.site_place-requires
site_place-requires c = omega (arith, c.actor-own.ensures.1, (playable_ready _ _ _ _ c.requires c.head_at-head.ensures).high)

pub site_at-site-requires : goal.site_at-site-requires
site_at-site-requires c = omega (arith, c.site_place.ensures.1, c.actor-own.ensures.1, (playable_ready _ _ _ _ c.requires c.head_at-head.ensures).high, inside-length _ c.requires.inside)

pub act-requires : goal.act-requires
act-requires c = playable_ready _ _ _ _ c.requires c.head_at-head.ensures

pub put_change-requires : goal.put_change-requires
put_change-requires c = (omega (arith, c.actor-own.ensures.1, (playable_ready _ _ _ _ c.requires c.head_at-head.ensures).high), c.requires.inside, c.requires.bytes)

pub put_number-requires : goal.put_number-requires
put_number-requires c = omega (arith, c.requires.eight)

pub returns-in-Ok : goal.returns-in-Ok
unfolding leave
returns-in-Ok c =
    let a = c.args in
    let head = c.head_at-head in
    let e =
    change_accepted a.world.now a.store.now a.list.now a.at a.res.now c.read_command-reading.result head.result c.actor-own.result
    c.site_at-site.result _ c.act.new.store c.requires c.read_command-reading.ensures.0 head.ensures c.actor-own.ensures.0
    (omega (arith, c.actor-own.ensures.1, (playable_ready _ _ _ _ c.requires head.ensures).high))
    (rw c.site_place.ensures.0 at c.site_at-site.ensures) (acts_read _ _ _ _ _ _ _ c.in-Ok.ensures) refl in
    record { value = rw e; store_after = rw e; world_after = rw e c.put_change.ensures; res_after = rw e c.put_number.ensures }

pub returns-in-Err : goal.returns-in-Err
unfolding leave
returns-in-Err c =
    let a = c.args in
    let head = c.head_at-head in
    let e =
    change_refused a.world.now a.store.now a.list.now a.at a.res.now c.read_command-reading.result head.result c.actor-own.result
    c.site_at-site.result _ c.act.new.store c.requires c.read_command-reading.ensures.0 head.ensures c.actor-own.ensures.0
    (omega (arith, c.actor-own.ensures.1, (playable_ready _ _ _ _ c.requires head.ensures).high))
    (rw c.site_place.ensures.0 at c.site_at-site.ensures) (acts_read _ _ _ _ _ _ _ c.in-Err.ensures) (number-some c.in-Err.refusal.reason) in
    record { value = rw e c.from.ensures; store_after = rw e; world_after = rw e; res_after = rw e }
