use native.Mathlib.Omega.{arith}
use mathlib.Core.Path.{ap, sym}
use Rattle.refusals.specs.Refusals.{stop_number}
use Rattle.calls.specs.laws.CallLaws.{list_unfit_result, list_plays}
use Rattle.calls.specs.Calls.{leave, leave_play}
use Rattle.crossing.proofs.list_call.Goals as goal

pub returns-then-res-ne-RESULT_BYTES : goal.returns-then-res-ne-RESULT_BYTES
unfolding leave
returns-then-res-ne-RESULT_BYTES c = let e = list_unfit_result c.args.list.now c.args.store.now c.args.world.now c.args.res.now (omega arith) c.if-res-ne-RESULT_BYTES.true in record { value = rw e c.unfit_number-then-res-ne-RESULT_BYTES.ensures; store_after = rw e; world_after = rw e; res_after = rw e }

pub returns-in-Some : goal.returns-in-Some
unfolding leave_play
returns-in-Some c =
    let e = list_plays c.args.list.now c.args.store.now c.args.world.now c.args.res.now (omega arith) c.if-res-ne-RESULT_BYTES.false in
    let p = c.play_list-played.ensures.played in
    record {
      value = rw (e, c.from.ensures, ← p) (sym (ap stop_number c.in-Some.is));
      store_after = rw e c.play_list-played.ensures.stored;
      world_after = rw (e, c.put_world.ensures, ← p);
      res_after = rw (e, c.put_number-2.ensures, c.put_number.ensures, ← p);
    }

pub returns-in-None : goal.returns-in-None
unfolding leave_play
returns-in-None c =
    let e = list_plays c.args.list.now c.args.store.now c.args.world.now c.args.res.now (omega arith) c.if-res-ne-RESULT_BYTES.false in
    let p = c.play_list-played.ensures.played in
    record {
      value = rw (e, ← p) (sym (ap stop_number c.in-None.is));
      store_after = rw e c.play_list-played.ensures.stored;
      world_after = rw (e, c.put_world.ensures, ← p);
      res_after = rw (e, c.put_number-2.ensures, c.put_number.ensures, ← p);
    }
