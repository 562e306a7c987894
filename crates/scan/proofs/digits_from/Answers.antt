use native.Mathlib.Omega.{arith}
use mathlib.Core.Path.{sym, ◌∙◌}
use Rattle.scan.specs.Scan.{number}
use Rattle.scan.specs.laws.NumberLaws.{digit_low, digit_inside, digits_end, digits_more, digits_all, digit_fits}
use Rattle.scan.proofs.digits_from.Goals as goal

pub returns-then-not-is_digit : goal.returns-then-not-is_digit
unfolding number
returns-then-not-is_digit c = sym (digits_end _ _ _ _ c.loop-test.true (λ e. omega arith) (sym (rw c.byte_at-byte.ensures.0 at c.is_digit.ensures) ∙ c.if-not-is_digit.true)) ∙ c.loop.invariant.2

pub overflow_sub-value : goal.overflow_sub-value
overflow_sub-value c = digit_low _ (sym c.is_digit.ensures ∙ c.if-not-is_digit.false)

pub loop-preserved : goal.loop-preserved
loop-preserved c =
    let digit = sym (rw c.byte_at-byte.ensures.0 at c.is_digit.ensures) ∙ c.if-not-is_digit.false in (
      omega (arith, digit_inside c.args.text.now c.loop.next digit),
      digit_fits _ _ _ c.loop.invariant.1 (sym c.is_digit.ensures ∙ c.if-not-is_digit.false),
      rw c.byte_at-byte.ensures.0 (sym (digits_more _ _ _ _ c.loop-test.true (λ e. omega arith) digit) ∙ c.loop.invariant.2),
    )

pub returns : goal.returns
unfolding number
returns c = sym (digits_all _ _ _ _ c.loop-test.false) ∙ c.loop.invariant.2
