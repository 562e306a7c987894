-- A decimal number digit by digit: a number of one digit, a digit more after a number, and every byte of it is a digit.
use Rattle.std.specs.Prelude.{ℕ, ◌+◌, ◌*◌, ◌/◌, ◌%◌, ◌<◌, ◌≤◌, List, [], ◌∷◌, ◌++◌, ◌≡◌, length, get_or}
use Rattle.std.proofs.Common.{ap, ◌∙◌, mod-eq_of_lt, mod-lt, arith, length-append}
use Rattle.std.proofs.Math.Nat.{div-div-eq-div-mul, div-eq_of_lt-le, mul-add-mod_self_left}
use Rattle.text.specs.Text.{digit_at, decimal}
use Rattle.text.specs.laws.DecimalLaws.{by_unit, shown, hidden, no_leading_nought}

-- a number below ten is its digit
pub decimal-one : (d : ℕ) → d < 10 → decimal d ≡ (48 + d) ∷ []
unfolding decimal
decimal-one d h =
    rw (hidden 100000 d (omega arith), hidden 10000 d (omega arith), hidden 1000 d (omega arith))
    (rw (hidden 100 d (omega arith), hidden 10 d h, mod-eq_of_lt h))

-- a digit put after a number: the number is what is left above the digit, and its digits stand one unit higher
above : (v d : ℕ) → d < 10 → (10 * v + d) / 10 ≡ v
above v d h = div-eq_of_lt-le 10 (omega arith) (omega arith)

last : (v d : ℕ) → d < 10 → (10 * v + d) % 10 ≡ d
last v d h = mul-add-mod_self_left 10 v d ∙ mod-eq_of_lt h

higher : (unit v d : ℕ) → d < 10 → digit_at (10 * unit) (10 * v + d) ≡ digit_at unit v
higher unit v d h =
    by_unit unit v
    (λ i. rw (shown unit v i, shown (10 * unit) (10 * v + d) (omega arith))
    (rw (← div-div-eq-div-mul (10 * v + d) 10 unit, above v d h)))
    (λ o. rw (hidden unit v o, hidden (10 * unit) (10 * v + d) (omega arith)))

lowest : (v d : ℕ) → 1 ≤ v → d < 10 → digit_at 10 (10 * v + d) ≡ (48 + v % 10) ∷ []
lowest v d some h = rw (shown 10 (10 * v + d) (omega arith), above v d h)

-- a digit more after a number that is not nought
pub decimal-more : (v d : ℕ) → 1 ≤ v → v < 100000 → d < 10 → decimal (10 * v + d) ≡ decimal v ++ ((48 + d) ∷ [])
unfolding decimal
decimal-more v d some high h =
    rw (higher 10000 v d h, higher 1000 v d h, higher 100 v d h, higher 10 v d h)
    (rw (lowest v d some h, last v d h, hidden 100000 v high))

-- bytes that are all digits
pub data Digits : List ℕ → Type 0 where
  none : Digits []
  more : {b : ℕ} {s : List ℕ} → 48 ≤ b → b ≤ 57 → Digits s → Digits (b ∷ s)

digits_join : {s t : List ℕ} → Digits s → Digits t → Digits (s ++ t)
digits_join none q = q
digits_join (more low high p) q = more low high (digits_join p q)

one_digit : (y : ℕ) → Digits ((48 + y % 10) ∷ [])
one_digit y =
    let low : y % 10 < 10 = mod-lt y (omega arith) in more {b = 48 + y % 10} (omega arith) (omega arith) none

digit_digits : (unit x : ℕ) → Digits (digit_at unit x)
digit_digits unit x =
    by_unit unit x (λ h. rw (shown unit x h) (one_digit (x / unit))) (λ h. rw (hidden unit x h) none)

-- every byte of a decimal number is a digit
pub decimal_digits : (x : ℕ) → Digits (decimal x)
unfolding decimal
decimal_digits x =
    digits_join
    (digits_join
    (digits_join
    (digits_join (digits_join (digit_digits 100000 x) (digit_digits 10000 x)) (digit_digits 1000 x))
    (digit_digits 100 x))
    (digit_digits 10 x))
    (one_digit x)

-- there is a first digit
pub decimal-some : (x : ℕ) → 1 ≤ length (decimal x)
unfolding decimal
decimal-some x = simp length-append (omega arith)

-- and after a first digit of nought there is no other
pub nought_alone : (x : ℕ) (b : ℕ) (s : List ℕ) → x < 1000000 → decimal x ≡ b ∷ s → b ≡ 48 → s ≡ []
nought_alone x b s high e nought =
    by_unit 10 x (λ h. absurd (no_leading_nought x h high (ap (λ l. get_or l 0 0) e ∙ nought)))
    (λ h. let f : decimal x ≡ (48 + x) ∷ [] = decimal-one x h in cc)
