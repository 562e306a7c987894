use Rattle.layout.proofs.laws.LayoutLaws.{inside-length}
use mathlib.Core.Path.{ap, sym, ◌∙◌}
use Rattle.refusals.specs.laws.RefusalLaws.{number-some}
use Rattle.calls.specs.Calls.{leave_buffer}
use Rattle.calls.specs.laws.CallLaws.{report_17_result, report-17-world, report-not-written, report-accepted}
use Rattle.crossing.proofs.report_call.Goals as goal

pub returns-then-res-ne-RESULT_BYTES : goal.returns-then-res-ne-RESULT_BYTES
unfolding leave_buffer
returns-then-res-ne-RESULT_BYTES c = let e = report_17_result c.args.world.now c.args.events c.args.number c.args.place c.args.buffer.now c.args.res.now c.if-res-ne-RESULT_BYTES.true in record { value = rw e c.from.ensures; buffer_after = rw e; res_after = rw e }

pub returns-then-not-in_layout : goal.returns-then-not-in_layout
unfolding leave_buffer
returns-then-not-in_layout c = let e = report-17-world c.args.world.now c.args.events c.args.number c.args.place c.args.buffer.now c.args.res.now c.if-res-ne-RESULT_BYTES.false (sym c.in_layout.ensures.inside ∙ c.if-not-in_layout.true) in record { value = rw e c.from-then-not-in_layout.ensures; buffer_after = rw e; res_after = rw e }

pub world_at-before-requires : goal.world_at-before-requires
world_at-before-requires c = inside-length c.args.world.now (sym c.in_layout.ensures.inside ∙ c.if-not-in_layout.false)

pub returns-in-Ok : goal.returns-in-Ok
unfolding leave_buffer
returns-in-Ok c =
    let a = c.args in
    let value = rw c.world_at-before.ensures at c.in-Ok.ensures.value in
    let e =
    report-accepted a.world.now a.events a.number a.place a.buffer.now a.res.now c.if-res-ne-RESULT_BYTES.false
    (sym c.in_layout.ensures.inside ∙ c.if-not-in_layout.false) (sym (ap (λ r. r.number) value)) in
    record {
      value = rw e;
      buffer_after = rw (e, c.in-Ok.ensures.buffer_after, c.world_at-before.ensures);
      res_after = rw (e, c.put_number.ensures, ← value);
    }

pub returns-in-Err : goal.returns-in-Err
unfolding leave_buffer
returns-in-Err c =
    let a = c.args in
    let value = rw c.world_at-before.ensures at c.in-Err.ensures.value in
    let e =
    report-not-written a.world.now a.events a.number a.place a.buffer.now a.res.now c.if-res-ne-RESULT_BYTES.false
    (sym c.in_layout.ensures.inside ∙ c.if-not-in_layout.false) (λ z. number-some c.in-Err.reason (ap (λ r. r.number) value ∙ z)) in
    record {
      value = rw (e, c.from-in-Err.ensures, ← value);
      buffer_after = rw (e, c.in-Err.ensures.buffer_after, c.world_at-before.ensures);
      res_after = rw e;
    }
