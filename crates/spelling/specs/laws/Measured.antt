-- What measuring gives: the output's length with the input's, or the refusal that a script met.
use Rattle.std.specs.Prelude.{ℕ, ◌≤◌, ◌≡◌, eqb}
use native.Mathlib.Omega.{arith}
use borrow.Author.Tests.{eq-eqb, ne_eqb, eqb-true, eqb-false}
use Rattle.choice.specs.Choice.{pick}
use Rattle.choice.specs.laws.Cases.{by_test}
use Rattle.refusals.specs.Refusals.{number_of}
use Rattle.refusals.specs.declared.Refusal.{Refusal}
use Rattle.spelling.specs.Answers.{Answer}
use Rattle.spelling.specs.Script.{Script}

unfoldable pub measured_by : Script → ℕ → ℕ → Answer
measured_by s place total =
    pick (eqb s.number 0) (record { number = 0; place = place; length = total })
    (record { number = s.number; place = s.place; length = 0 })

module _ (s : Script) (place total : ℕ) where
  pub measured-refused : (r : Refusal) → 1 ≤ number_of r.reason → (s.number ≡ number_of r.reason) × (s.place ≡ r.place) →
      record { number = number_of r.reason; place = r.place; length = 0 } ≡ measured_by s place total
  unfolding measured_by
  measured-refused r some same = rw (ne_eqb s.number 0 (λ z. never z same.0 some), same.0, same.1)
    where
      never : {a b : ℕ} → a ≡ 0 → a ≡ b → 1 ≤ b → ⊥
      never p q h = omega arith

  pub measured-whole : (n : ℕ) → (s.number ≡ 0) × (total ≡ n) →
      record { number = 0; place = place; length = n } ≡ measured_by s place total
  unfolding measured_by
  measured-whole n same = rw (eq-eqb s.number 0 same.0, ← same.1)

  -- a measure is of a script that was read to its end, or of one that was refused
  pub record Whole : Type 0 where
    pub ended : s.number ≡ 0
    pub same : measured_by s place total ≡ record { number = 0; place = place; length = total }

  pub record Stopped : Type 0 where
    pub refused : s.number ≡ 0 → ⊥
    pub same : measured_by s place total ≡ record { number = s.number; place = s.place; length = 0 }

  pub whole : (measured_by s place total).number ≡ 0 → Whole
  unfolding measured_by
  whole good =
      by_test (eqb s.number 0) (λ e. record { ended = eqb-true s.number 0 e; same = rw e })
      (λ e. absurd (eqb-false s.number 0 e (rw e at good)))

  pub stopped : ((measured_by s place total).number ≡ 0 → ⊥) → Stopped
  unfolding measured_by
  stopped bad =
      by_test (eqb s.number 0) (λ e. absurd (bad (rw e)))
      (λ e. record { refused = eqb-false s.number 0 e; same = rw e })
