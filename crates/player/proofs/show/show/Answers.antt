use native.Mathlib.Omega.{arith}
use Rattle.std.proofs.Common.{ap, sym, ◌∙◌, zero-add}
use Rattle.player.specs.Shown.{shown_buffer, shown_length}
use Rattle.player.proofs.show.show.Goals as goal

pub returns-then-is_header_number : goal.returns-then-is_header_number
unfolding shown_buffer shown_length
returns-then-is_header_number c =
    let w = rw c.number_of-number.ensures at c.show_refusal.ensures.written in
    let t = sym (rw c.number_of-number.ensures at c.is_header_number.ensures) ∙ c.if-is_header_number.true in
    record { buffer_after = rw t w.holds; value = rw t (w.ends ∙ zero-add _); upper_bound = omega arith }

pub returns-in-Ok : goal.returns-in-Ok
unfolding shown_buffer shown_length
returns-in-Ok c =
    let t = sym (rw c.number_of-number.ensures at c.is_header_number.ensures) ∙ c.if-is_header_number.false in
    let value = rw (c.number_of-number.ensures, c.in-Ok.is) at c.write_report.ensures.value in
    let bound = rw c.in-Ok.is at c.write_report.ensures.length_in_bounds in
    record {
      buffer_after = rw t (rw c.number_of-number.ensures at c.write_report.ensures.buffer_after);
      value = rw t (ap (λ r. r.length) value);
      upper_bound = bound;
    }

pub returns-in-Err : goal.returns-in-Err
unfolding shown_buffer shown_length
returns-in-Err c =
    let t = sym (rw c.number_of-number.ensures at c.is_header_number.ensures) ∙ c.if-is_header_number.false in
    let value = rw (c.number_of-number.ensures, c.in-Err.is) at c.write_report.ensures.value in
    let bound = rw c.in-Err.is at c.write_report.ensures.length_in_bounds in
    record {
      buffer_after = rw t (rw c.number_of-number.ensures at c.write_report.ensures.buffer_after);
      value = rw t (ap (λ r. r.length) value);
      upper_bound = bound;
    }
