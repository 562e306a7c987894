use native.Mathlib.Omega.{arith}
use Rattle.std.proofs.Common.{rules, ◌≡◌}
use Rattle.std.specs.Prelude.{Ok, Err}
use Rattle.command.specs.Commands.{read_command}
use Rattle.std.proofs.lemmas.Result.{err_from_is_err_and}
use Rattle.header.specs.laws.HeaderLaws.{first-headed}
use Rattle.spelling.specs.Spelling.{command_line}
use Rattle.spelling.specs.laws.BytesBack.{header_in_range, command-refused}
use Rattle.write_lines.specs.laws.WriteLaws.{measured, command-at, list_forward, lines_begin}
use Rattle.spelling.specs.laws.Measured.{measured-refused, measured-whole}
use Rattle.spelling.specs.laws.LoopLaws.{measuring-on, measuring-refused, measuring-ends}
use Rattle.write_lines.proofs.measure.Goals as goal

pub header_line_length-length-requires : goal.header_line_length-length-requires
header_line_length-length-requires c = rw c.requires.0 (header_in_range c.args.list.now (λ i. (c.type_inv.list i).fits))

pub loop-at-init : goal.loop-at-init
loop-at-init c = (lines_begin c.args.list.now (λ i. (c.type_inv.list i).fits) _ (rw c.requires.0 at c.header_line_length-length.ensures.0), omega (arith, c.header_line_length-length.ensures.1))

pub returns-in_err-parsed : goal.returns-in_err-parsed
unfolding measured
returns-in_err-parsed c =
    let p = err_from_is_err_and c.from_residual.result c.from_residual.ensures.1 in
    let e : read_command c.args.list.now c.loop-at.at ≡ Err c.in_err-parsed.field-0.0 = search rules in
    rw (p.1, p.2)
    (measured-refused _ _ _ _ (command-refused c.args.list.now (λ i. (c.type_inv.list i).fits) _ _ e).0 (measuring-refused command_line _ _ (list_forward c.args.list.now (λ i. (c.type_inv.list i).fits)) _ _ _ _ c.loop-at.invariant.0 _ c.loop-at-test.true e))

pub line_length-length-requires : goal.line_length-length-requires
line_length-length-requires c =
    let found : read_command c.args.list.now c.loop-at.at ≡ Ok c.in_ok-parsed.parsed = search rules in
    (command-at c.args.list.now (λ i. (c.type_inv.list i).fits) _ _ found).in_range

pub overflow_add-length : goal.overflow_add-length
overflow_add-length c = omega (arith, (first-headed c.args.list.now c.requires.1).small, c.loop-at.invariant.1, c.loop-at-test.true, c.line_length-length.ensures.1)

pub loop-at-smaller : goal.loop-at-smaller
loop-at-smaller c =
    let found : read_command c.args.list.now c.loop-at.at ≡ Ok c.in_ok-parsed.parsed = search rules in
    omega (arith, (list_forward c.args.list.now (λ i. (c.type_inv.list i).fits)) _ _ c.loop-at-test.true found)

pub loop-at-preserved : goal.loop-at-preserved
loop-at-preserved c =
    let found : read_command c.args.list.now c.loop-at.at ≡ Ok c.in_ok-parsed.parsed = search rules in (
      rw c.line_length-length.ensures.0 (measuring-on command_line _ _ (list_forward c.args.list.now (λ i. (c.type_inv.list i).fits)) _ _ _ _ c.loop-at.invariant.0 _ c.loop-at-test.true found),
      omega (arith, c.loop-at.invariant.1, c.line_length-length.ensures.1, (list_forward c.args.list.now (λ i. (c.type_inv.list i).fits)) _ _ c.loop-at-test.true found),
    )

pub returns : goal.returns
unfolding measured
returns c = measured-whole _ _ _ _ (measuring-ends command_line _ _ (list_forward c.args.list.now (λ i. (c.type_inv.list i).fits)) _ _ _ _ c.loop-at.invariant.0 c.loop-at-test.false)
