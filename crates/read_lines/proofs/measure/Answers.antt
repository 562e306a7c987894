use native.Mathlib.Omega.{arith}
use mathlib.Core.Path.{sym, ◌∙◌}
use Rattle.spelling.specs.Spelling.{command_bytes}
use Rattle.std.proofs.lemmas.Result.{err_from_is_err_and}
use Rattle.spelling.specs.laws.LoopLaws.{measuring-on, measuring-refused, measuring-ends}
use Rattle.spelling.specs.laws.Measured.{measured-refused, measured-whole}
use Rattle.read_lines.specs.laws.ReadLaws.{measured, refused-number, text_forward, bytes_behind, list-begins}
use Rattle.read_lines.proofs.measure.Goals as goal

pub loop-at-init : goal.loop-at-init
loop-at-init c = (list-begins c.args.text.now _, omega arith)

pub returns-in_err-parsed : goal.returns-in_err-parsed
unfolding measured
returns-in_err-parsed c =
    let p = err_from_is_err_and c.from_residual.result c.from_residual.ensures.1 in
    let e = sym c.read_line.ensures ∙ c.in_err-parsed.was in
    rw (p.1, p.2)
    (measured-refused _ _ _ _ (refused-number _ _ _ e) (measuring-refused command_bytes _ _ (text_forward c.args.text.now) _ _ _ _ c.loop-at.invariant.0 _ c.loop-at-test.true e))

pub overflow_add-length : goal.overflow_add-length
overflow_add-length c = omega (arith, c.loop-at.invariant.1, c.loop-at-test.true, c.command_length-length.ensures.1)

pub loop-at-smaller : goal.loop-at-smaller
loop-at-smaller c = omega (arith, (text_forward c.args.text.now) _ _ c.loop-at-test.true (sym c.read_line.ensures ∙ c.in_ok-parsed.was))

pub loop-at-preserved : goal.loop-at-preserved
loop-at-preserved c = (
  rw c.command_length-length.ensures.0 (measuring-on command_bytes _ _ (text_forward c.args.text.now) _ _ _ _ c.loop-at.invariant.0 _ c.loop-at-test.true (sym c.read_line.ensures ∙ c.in_ok-parsed.was)),
  rw c.command_length-length.ensures.0 (omega (arith, c.loop-at.invariant.1, bytes_behind c.args.text.now _ _ (omega (arith, c.loop-at-test.true)) (sym c.read_line.ensures ∙ c.in_ok-parsed.was))),
)

pub returns : goal.returns
unfolding measured
returns c = measured-whole _ _ _ _ (measuring-ends command_bytes _ _ (text_forward c.args.text.now) _ _ _ _ c.loop-at.invariant.0 c.loop-at-test.false)
