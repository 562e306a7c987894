-- Cases by a test, with what the test says.
use Rattle.std.specs.Prelude.{ℕ, Bool, true, false, ◌≡◌, refl, eqb}
use Rattle.std.proofs.Common.{eqb-true}
use Rattle.std.proofs.lemmas.Bool.{eqb-false}

-- a test holds or fails
pub by_test {ℓ} : {P : Type ℓ} (t : Bool) → (t ≡ true → P) → (t ≡ false → P) → P
by_test true on off = on refl
by_test false on off = off refl

-- two numbers are equal or not
pub by_equal {ℓ} : {P : Type ℓ} (a b : ℕ) → (a ≡ b → P) → ((a ≡ b → ⊥) → P) → P
by_equal a b same other = by_test (eqb a b) (λ e. same (eqb-true a b e)) (λ e. other (eqb-false a b e))

-- a law for every number holds at one number and at all others
pub at_and_elsewhere {ℓ} : (P : ℕ → Type ℓ) (own : ℕ) → P own → ((j : ℕ) → (j ≡ own → ⊥) → P j) → (j : ℕ) → P j
at_and_elsewhere P own here there j = by_equal j own (λ e. rw e here) (λ e. there j e)
