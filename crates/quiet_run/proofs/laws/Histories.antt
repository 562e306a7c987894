-- The records of a quiet day: one kind after the other, each at every site in turn.
use Rattle.std.specs.Prelude.{ℕ, zero, suc, ◌+◌, ◌≤◌, ◌<◌, Bool, true, false, List, [], ◌∷◌, ◌++◌, ◌≡◌, refl, eqb, length}
use Rattle.std.proofs.Common.{◌∙◌, arith, length-append, eq-eqb, ne_eqb}
use Rattle.choice.specs.Choice.{both}
use Rattle.choice.specs.laws.Cases.{by_equal}
use Rattle.site.specs.Records.{Written, LogRecord, wrote, record_code}
use Rattle.history.specs.Safe.{written_at}
use Rattle.history.proofs.laws.HistoryLaws.{at-append}

-- the record at each site below k
unfoldable pub each_wrote : LogRecord → ℕ → List Written
each_wrote what zero = []
each_wrote what (suc k) = each_wrote what k ++ (wrote k what ∷ [])

pub each-length : (what : LogRecord) (k : ℕ) → length (each_wrote what k) ≡ k
unfolding each_wrote
each-length what zero = refl
each-length what (suc k) = omega (arith, length-append (each_wrote what k) (wrote k what ∷ []), each-length what k)

-- they lead to the record's code alone, once at each site below k

pub written-other : (what : LogRecord) (code k j : ℕ) → (record_code what ≡ code → ⊥) → written_at j code (each_wrote what k) ≡ 0
unfolding each_wrote written_at
written-other what code zero j other = refl
written-other what code (suc k) j other =
    at-append j code (each_wrote what k) (wrote k what ∷ [])
    ∙ (rw (ne_eqb (record_code what) code other, both-no (eqb k j)) (omega (arith, written-other what code k j other)))
  where
    both-no : (t : Bool) → both t false ≡ false
    both-no true = refl
    both-no false = refl

written-beyond : (what : LogRecord) (code k j : ℕ) → k ≤ j → written_at j code (each_wrote what k) ≡ 0
unfolding each_wrote written_at
written-beyond what code zero j h = refl
written-beyond what code (suc k) j h =
    at-append j code (each_wrote what k) (wrote k what ∷ [])
    ∙ (rw (ne_eqb k j (λ e. omega arith)) (omega (arith, written-beyond what code k j (omega arith))))

pub written_below : (what : LogRecord) (code k j : ℕ) → record_code what ≡ code → j < k → written_at j code (each_wrote what k) ≡ 1
unfolding each_wrote written_at
written_below what code zero j same h = absurd (omega arith)
written_below what code (suc k) j same h =
    at-append j code (each_wrote what k) (wrote k what ∷ [])
    ∙ by_equal k j
    (λ e. rw (eq-eqb k j e, eq-eqb (record_code what) code same) (omega (arith, written-beyond what code k j (omega arith))))
    (λ e. rw (ne_eqb k j e) (omega (arith, written_below what code k j same (omega arith))))
