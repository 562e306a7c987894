use native.Mathlib.Omega.{arith}
use borrow.Author.Tests.{eq-eqb, ne_eqb}
use Rattle.std.proofs.Common.{refl, rules, ◌∙◌, zero-add}
use Rattle.text.specs.laws.PageLaws.{put_whole}
use Rattle.spelled_out.specs.Shown.{shown_buffer, shown_length}
use Rattle.spelled_out.proofs.shown.Goals as goal

pub returns-in-Ok : goal.returns-in-Ok
unfolding shown_buffer shown_length
returns-in-Ok c = record { buffer_after = rw c.in-Ok.is; value = rw c.in-Ok.is; upper_bound = rw c.in-Ok.is at c.requires.0 }

pub returns-then-refusal-eq0 : goal.returns-then-refusal-eq0
unfolding shown_buffer shown_length
returns-then-refusal-eq0 c =
    let none = eq-eqb _ _ c.if-refusal-eq0.true in
    record { buffer_after = rw (c.in-Err.is, none) refl; value = rw (c.in-Err.is, none) refl; upper_bound = omega arith }

pub returns-else-refusal-eq0 : goal.returns-else-refusal-eq0
unfolding shown_buffer shown_length
returns-else-refusal-eq0 c =
    let some = ne_eqb _ _ c.if-refusal-eq0.false in
    let w = put_whole (rw c.from-number.ensures at c.put_last.ensures.put) c.new-page.ensures.bytes c.new-page.ensures.place in
    record {
      buffer_after = rw (c.in-Err.is, some, ← w.holds) (search rules);
      value = rw (c.in-Err.is, some) (w.ends ∙ zero-add _);
      upper_bound = omega (arith, c.put_last.ensures.upper_bound, c.new-page.ensures.place);
    }
