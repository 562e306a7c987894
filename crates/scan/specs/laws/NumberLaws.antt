-- Laws of a number at a place, as its digits are read one after the other.
use Rattle.std.specs.Prelude.{ℕ, zero, suc, ◌+◌, ◌*◌, ◌-◌, ◌^◌, ◌<◌, ◌≤◌, Bool, true, false, ◌&&◌, List, ◌≡◌, leb, ltb, length, get_or, Some, None}
use Rattle.std.proofs.Common.{arith}
use Rattle.std.proofs.Math.ListN.{get_or-eq_default}
use Rattle.std.proofs.lemmas.Bool.Decides.{nat_tests}
use Rattle.std.specs.Ordering.{is_le, nat_cmp}
use borrow.Author.Tests.{lt-ltb, le-ltb, le-leb, lt-leb, leb-true, ltb-true, ltb-false}
use Rattle.choice.specs.laws.Cases.{by_test}
use Rattle.choice.specs.laws.ChoiceLaws.{both_first, both-second}
use Rattle.scan.specs.declared.Number.{Number}
use Rattle.scan.specs.Scan.{is_digit, number, digits_from, up_to, number_at}

-- the library's test whether a byte lies in a range
pub digit_range : (r : Bool) (b : ℕ) → r ≡ (is_le (nat_cmp 48 b) && is_le (nat_cmp b 57)) → r ≡ is_digit b
unfolding is_digit
digit_range r b e = grind (arith, nat_tests)

-- a digit is a byte of 48 to 57
pub digit_low : (b : ℕ) → is_digit b ≡ true → 48 ≤ b
unfolding is_digit
digit_low b e = leb-true 48 b (both_first (leb 48 b) (leb b 57) e)

pub digit_high : (b : ℕ) → is_digit b ≡ true → b ≤ 57
unfolding is_digit
digit_high b e = leb-true b 57 (both-second (leb 48 b) (leb b 57) e)

-- and stands inside the text
pub digit_inside : (s : List ℕ) (at : ℕ) → is_digit (get_or s at 0) ≡ true → at < length s
digit_inside s at e =
    by_test (ltb at (length s)) (λ t. ltb-true at (length s) t)
    (λ f. absurd (past (get_or s at 0) (get_or-eq_default s 0 (ltb-false at (length s) f)) (digit_low (get_or s at 0) e)))
  where
    past : (b : ℕ) → b ≡ 0 → 48 ≤ b → ⊥
    past b e h = omega arith

module _ (s : List ℕ) (at v : ℕ) (k : ℕ) (low : k < 4) where
  fuel : 4 - k ≡ suc (4 - (k + 1))
  fuel = omega arith

  -- a nought that is the first digit ends the number
  pub digits_nought : v ≡ 0 → digits_from (4 - k) s at v ≡ number v at
  unfolding digits_from
  digits_nought e = rw (fuel, le-ltb 0 v (omega arith))

  -- so does any other byte
  pub digits_end : (v ≡ 0 → ⊥) → is_digit (get_or s at 0) ≡ false → digits_from (4 - k) s at v ≡ number v at
  unfolding digits_from
  digits_end some e = rw (fuel, lt-ltb 0 v (omega arith), e)

  -- a digit more
  pub digits_more :
      (v ≡ 0 → ⊥) → is_digit (get_or s at 0) ≡ true →
      digits_from (4 - k) s at v ≡ digits_from (4 - (k + 1)) s (at + 1) (10 * v + (get_or s at 0 - 48))
  unfolding digits_from
  digits_more some e = rw (fuel, lt-ltb 0 v (omega arith), e)

-- no digit is left to be read
pub digits_all : (s : List ℕ) (at v k : ℕ) → 4 ≤ k → digits_from (4 - k) s at v ≡ number v at
unfolding digits_from
digits_all s at v k high = let e : 4 - k ≡ 0 = omega arith in rw e

-- the number stays below a hundred thousand: with k digits after the first it is below ten to the k + 1
pub digit_fits : (v b k : ℕ) → v < 10 ^ (k + 1) → is_digit b ≡ true → 10 * v + (b - 48) < 10 ^ (k + 1 + 1)
digit_fits v b k h e = rw (native.Mathlib.Numerals.add-one (k + 1)) (omega (arith, digit_low b e, digit_high b e))

pub digits_small : (v k : ℕ) → k < 4 → v < 10 ^ (k + 1) → v < 10000
digits_small v zero low h = omega arith
digits_small v (suc zero) low h = omega arith
digits_small v (suc (suc zero)) low h = omega arith
digits_small v (suc (suc (suc zero))) low h = omega arith
digits_small v (suc (suc (suc (suc k)))) low h = absurd (omega arith)

-- what the digits read give, by the limit
module _ (limit : ℕ) (s : List ℕ) (at : ℕ) (n : Number) (digit : is_digit (get_or s at 0) ≡ true) (same : n ≡ digits_from 4 s (at + 1) (get_or s at 0 - 48)) where
  pub number-found : n.value ≤ limit → Some n ≡ number_at limit s at
  unfolding number_at up_to
  number-found low = rw (digit, ← same, le-leb n.value limit low)

  pub number_past : limit < n.value → None ≡ number_at limit s at
  unfolding number_at up_to
  number_past high = rw (digit, ← same, lt-leb n.value limit high)
