use native.Mathlib.Omega.{arith}
use Rattle.std.proofs.Common.{ℕ, ◌≡◌, ◌<◌, add-one, length-take, get_or-take}
use Rattle.text.specs.laws.PageLaws.{joined, nothing}
use Rattle.lines.specs.Lines.{code_digits}
use Rattle.lines.specs.laws.LineLaws.{valid_code}
use Rattle.lines.proofs.log.put_codes.Goals as goal

pub loop-code-init : goal.loop-code-init
unfolding code_digits
loop-code-init c = (omega arith, nothing _)

pub overflow_add-code : goal.overflow_add-code
overflow_add-code c =
    let low : c.loop-code.code-index < c.args.n = omega (arith, length-take {A = ℕ}) in
    rw (get_or-take c.args.n c.args.codes c.loop-code.code-index 0 low) (omega (arith, valid_code _ _ c.requires.1 c.requires.0 _ low))

pub put_byte-requires : goal.put_byte-requires
put_byte-requires c = omega (arith, length-take {A = ℕ})

pub loop-code-preserved : goal.loop-code-preserved
unfolding code_digits
loop-code-preserved c =
    let low : c.loop-code.code-index < c.args.n = omega (arith, length-take {A = ℕ}) in
    (omega arith, rw add-one (joined c.loop-code.invariant.1 (rw (get_or-take c.args.n c.args.codes c.loop-code.code-index 0 low) at c.put_byte.ensures.put)))

pub returns : goal.returns
returns c =
    let e : ◌≡◌ {A = ℕ} c.loop-code.code-index c.args.n = omega (arith, length-take {A = ℕ}) in
    record { put = rw e at c.loop-code.invariant.1; upper_bound = omega arith }
