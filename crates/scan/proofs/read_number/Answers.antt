use native.Mathlib.Omega.{arith}
use mathlib.Core.Path.{sym, ◌∙◌}
use Rattle.scan.specs.Scan.{number_at}
use Rattle.scan.specs.laws.NumberLaws.{digit_low, digit_high, digit_inside, number-found, number_past}
use Rattle.scan.proofs.read_number.Goals as goal

pub returns-then-not-is_digit : goal.returns-then-not-is_digit
unfolding number_at
returns-then-not-is_digit c = simp (sym (rw c.byte_at-first.ensures.0 at c.is_digit.ensures) ∙ c.if-not-is_digit.true)

pub overflow_add-at : goal.overflow_add-at
overflow_add-at c = omega (arith, digit_inside c.args.text.now c.args.at (sym (rw c.byte_at-first.ensures.0 at c.is_digit.ensures) ∙ c.if-not-is_digit.false))

pub overflow_sub-first : goal.overflow_sub-first
overflow_sub-first c = digit_low _ (sym c.is_digit.ensures ∙ c.if-not-is_digit.false)

pub digits_from-number-requires : goal.digits_from-number-requires
digits_from-number-requires c = (
  omega (arith, digit_inside c.args.text.now c.args.at (sym (rw c.byte_at-first.ensures.0 at c.is_digit.ensures) ∙ c.if-not-is_digit.false)),
  omega (arith, digit_low c.byte_at-first.result (sym c.is_digit.ensures ∙ c.if-not-is_digit.false), digit_high c.byte_at-first.result (sym c.is_digit.ensures ∙ c.if-not-is_digit.false)),
)

pub returns-then-limit-number : goal.returns-then-limit-number
returns-then-limit-number c = number_past _ _ _ _ (sym (rw c.byte_at-first.ensures.0 at c.is_digit.ensures) ∙ c.if-not-is_digit.false) (rw c.byte_at-first.ensures.0 at c.digits_from-number.ensures) c.if-limit-number.true

pub returns : goal.returns
returns c = number-found _ _ _ _ (sym (rw c.byte_at-first.ensures.0 at c.is_digit.ensures) ∙ c.if-not-is_digit.false) (rw c.byte_at-first.ensures.0 at c.digits_from-number.ensures) c.if-limit-number.false
