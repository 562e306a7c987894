-- A decimal number is right: its digits read back give the number, it has no leading nought, and no more digits than it needs.
use Rattle.std.specs.Prelude.{ℕ, zero, suc, ◌+◌, ◌*◌, ◌-◌, ◌/◌, ◌%◌, ◌^◌, ◌<◌, ◌≤◌, List, [], ◌∷◌, ◌++◌, ◌≡◌, refl, leb, length}
use Rattle.std.proofs.Common.{sym, ap, ◌∙◌, arith, length-append, le-leb, leb-true, leb-false}
use Rattle.std.proofs.Math.Nat.{div-div-eq-div-mul, div-add-mod, div-eq_of_lt}
use Rattle.std.proofs.lemmas.Bool.{lt-leb}
use Rattle.choice.specs.laws.Cases.{by_test}
use Rattle.text.specs.Text.{digit_at, decimal}
use Rattle.text.specs.Claims.{read_from, DecimalReads, NoLeadingNought}

read_join : (v : ℕ) (s t : List ℕ) → read_from v (s ++ t) ≡ read_from (read_from v s) t
unfolding read_from
read_join v [] t = refl
read_join v (d ∷ s) t = read_join (10 * v + (d - 48)) s t

-- a number reaches a unit or lies below it
pub by_unit {ℓ} : {P : Type ℓ} (unit x : ℕ) → (unit ≤ x → P) → (x < unit → P) → P
by_unit unit x f g = by_test (leb unit x) (λ e. f (leb-true unit x e)) (λ e. g (leb-false unit x e))

pub shown : (unit x : ℕ) → unit ≤ x → digit_at unit x ≡ (48 + x / unit % 10) ∷ []
unfolding digit_at
shown unit x h = rw (le-leb unit x h)

pub hidden : (unit x : ℕ) → x < unit → digit_at unit x ≡ []
unfolding digit_at
hidden unit x h = rw (lt-leb unit x h)

digit_length_lem : (unit x : ℕ) → length (digit_at unit x) ≤ 1
digit_length_lem unit x =
    by_unit unit x (λ h. rw (shown unit x h) (omega arith)) (λ h. rw (hidden unit x h) (omega arith))

decimal_length_lem : (x : ℕ) → length (decimal x) ≤ 6
unfolding decimal
decimal_length_lem x =
    simp length-append
    (omega (arith, digit_length_lem 100000 x, digit_length_lem 10000 x, digit_length_lem 1000 x, digit_length_lem 100 x, digit_length_lem 10 x))

pub no_digit : (unit x : ℕ) → x < unit → length (digit_at unit x) ≡ 0
no_digit unit x h = rw (hidden unit x h)

pub a_digit : (unit x : ℕ) → unit ≤ x → length (digit_at unit x) ≡ 1
a_digit unit x h = rw (shown unit x h)

-- a number below ten to the k has at most k digits; nought has one
pub decimal-below : (k x : ℕ) → 1 ≤ k → x < 10 ^ k → length (decimal x) ≤ k
unfolding decimal
decimal-below zero x low h = absurd (omega arith)
decimal-below (suc zero) x low h =
    simp length-append
    (omega (arith, no_digit 100000 x (omega arith), no_digit 10000 x (omega arith), no_digit 1000 x (omega arith), no_digit 100 x (omega arith), no_digit 10 x (omega arith)))
decimal-below (suc (suc zero)) x low h =
    simp length-append
    (omega (arith, no_digit 100000 x (omega arith), no_digit 10000 x (omega arith), no_digit 1000 x (omega arith), no_digit 100 x (omega arith), digit_length_lem 10 x))
decimal-below (suc (suc (suc zero))) x low h =
    simp length-append
    (omega (arith, no_digit 100000 x (omega arith), no_digit 10000 x (omega arith), no_digit 1000 x (omega arith), digit_length_lem 100 x, digit_length_lem 10 x))
decimal-below (suc (suc (suc (suc zero)))) x low h =
    simp length-append
    (omega (arith, no_digit 100000 x (omega arith), no_digit 10000 x (omega arith), digit_length_lem 1000 x, digit_length_lem 100 x, digit_length_lem 10 x))
decimal-below (suc (suc (suc (suc (suc zero))))) x low h =
    simp length-append
    (omega (arith, no_digit 100000 x (omega arith), digit_length_lem 10000 x, digit_length_lem 1000 x, digit_length_lem 100 x, digit_length_lem 10 x))
decimal-below (suc (suc (suc (suc (suc (suc k)))))) x low h = omega (arith, decimal_length_lem x)

-- the digit at a unit, after the number above it
digit_reads : (unit x : ℕ) → read_from (x / (unit * 10)) (digit_at unit x) ≡ x / unit
unfolding read_from
digit_reads unit x =
    by_unit unit x
    (λ h. rw (shown unit x h, ← div-div-eq-div-mul x unit 10) (omega (arith, div-add-mod (x / unit) 10)))
    (λ h. rw (hidden unit x h) (div-eq_of_lt (omega arith) ∙ sym (div-eq_of_lt h)))

-- digits that read as the number above a unit, and the unit's digit after them
next-reads :
    (unit x : ℕ) (s : List ℕ) → read_from 0 s ≡ x / (unit * 10) → read_from 0 (s ++ digit_at unit x) ≡ x / unit
next-reads unit x s e =
    read_join 0 s (digit_at unit x) ∙ ap (λ v. read_from v (digit_at unit x)) e ∙ digit_reads unit x

last-reads : (x : ℕ) (s : List ℕ) → read_from 0 s ≡ x / 10 → read_from 0 (s ++ (48 + x % 10) ∷ []) ≡ x
unfolding read_from
last-reads x s e =
    read_join 0 s ((48 + x % 10) ∷ []) ∙ ap (λ v. read_from v ((48 + x % 10) ∷ [])) e
    ∙ (omega (arith, div-add-mod x 10))

-- the digits of a number below a million read back give the number
pub decimal-reads : DecimalReads
unfolding decimal read_from
decimal-reads x h =
    last-reads x (digit_at 100000 x ++ digit_at 10000 x ++ digit_at 1000 x ++ digit_at 100 x ++ digit_at 10 x)
    (next-reads 10 x (digit_at 100000 x ++ digit_at 10000 x ++ digit_at 1000 x ++ digit_at 100 x)
    (next-reads 100 x (digit_at 100000 x ++ digit_at 10000 x ++ digit_at 1000 x)
    (next-reads 1000 x (digit_at 100000 x ++ digit_at 10000 x)
    (next-reads 10000 x (digit_at 100000 x) (next-reads 100000 x [] (sym (div-eq_of_lt h)))))))

-- a number from ten up has no leading nought
pub no_leading_nought : NoLeadingNought
unfolding decimal
no_leading_nought x low high =
    by_unit 100000 x (λ h. rw (shown 100000 x h) (λ e. omega arith)) λ h₁. rw (hidden 100000 x h₁)
    (by_unit 10000 x (λ h. rw (shown 10000 x h) (λ e. omega arith)) λ h₂. rw (hidden 10000 x h₂)
    (by_unit 1000 x (λ h. rw (shown 1000 x h) (λ e. omega arith)) λ h₃. rw (hidden 1000 x h₃)
    (by_unit 100 x (λ h. rw (shown 100 x h) (λ e. omega arith)) λ h₄. rw (hidden 100 x h₄)
    (rw (shown 10 x low) (λ e. omega arith)))))
