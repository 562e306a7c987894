-- Vectors in closed form: what a function says of each site below n, and 0 from n up; and what the rules make of them.
use Rattle.std.specs.Prelude.{ℕ, zero, suc, ◌≤◌, ◌<◌, true, false, List, ◌≡◌, refl, ltb, leb, eqb, length, get_or, set}
use Rattle.std.proofs.Common.{ap, sym, ◌∙◌, arith, lt-ltb, le-ltb, le-leb, ltb-true, ltb-false, eq-eqb}
use Rattle.std.proofs.lemmas.List.{get_or-replicate, length-replicate}
use Rattle.choice.specs.Choice.{pick}
use Rattle.choice.specs.laws.ChoiceLaws.{pick-on, pick_off, both-on}
use Rattle.choice.specs.laws.Cases.{by_test, by_equal}
use Rattle.choice.specs.Places.{sum_to}
use Rattle.vector.specs.Codes.{is_outcome}
use Rattle.vector.specs.Vector.{entry_weight, weigh, lowest_outcome}
use Rattle.vector.specs.laws.VectorLaws.{lowest-none}
use Rattle.merging.specs.Merging.{merge_entry, is_other, merging}
use Rattle.merging.proofs.MergeLaws.{merging-length, merging-at, merging_else}
use Rattle.merging.proofs.Orders.{other-own, other-beyond}
use Rattle.row.specs.Rows.{codes_known}
use Rattle.site.specs.Fields.{zero_vector}
use Rattle.quiet_run.proofs.laws.Tables.{table, table-length, table_at, table_is, table-set}

-- what is said of a site below n, and 0 from n up
unfoldable pub entry_of : ℕ → (ℕ → ℕ) → ℕ → ℕ
entry_of n f k = pick (ltb k n) (f k) 0

-- sixteen codes, of n sites
unfoldable pub codes_of : ℕ → (ℕ → ℕ) → List ℕ
codes_of n f = table (entry_of n f) 16

entry-below : (n : ℕ) (f : ℕ → ℕ) (k : ℕ) → k < n → entry_of n f k ≡ f k
unfolding entry_of
entry-below n f k h = pick-on (ltb k n) (f k) 0 (lt-ltb k n h)

entry-beyond : (n : ℕ) (f : ℕ → ℕ) (k : ℕ) → n ≤ k → entry_of n f k ≡ 0
unfolding entry_of
entry-beyond n f k h = pick_off (ltb k n) (f k) 0 (le-ltb k n h)

-- a law of every entry, from one of those below n and one of those beyond
by-entry : {P : Type 0} (n k : ℕ) → (k < n → P) → (n ≤ k → P) → P
by-entry n k below beyond = by_test (ltb k n) (λ e. below (ltb-true k n e)) (λ e. beyond (ltb-false k n e))

pub codes-length : (n : ℕ) (f : ℕ → ℕ) → length (codes_of n f) ≡ 16
unfolding codes_of
codes-length n f = table-length (entry_of n f) 16

pub codes_at : (n : ℕ) (f : ℕ → ℕ) (k : ℕ) → n ≤ 16 → k < n → get_or (codes_of n f) k 0 ≡ f k
unfolding codes_of
codes_at n f k few h = table_at (entry_of n f) 16 k 0 (omega arith) ∙ entry-below n f k h

codes-beyond : (n : ℕ) (f : ℕ → ℕ) (k : ℕ) → n ≤ k → k < 16 → get_or (codes_of n f) k 0 ≡ 0
unfolding codes_of
codes-beyond n f k h less = table_at (entry_of n f) 16 k 0 less ∙ entry-beyond n f k h

-- a vector with these entries
pub codes-is :
    (n : ℕ) (f : ℕ → ℕ) (v : List ℕ) → length v ≡ 16 → ((k : ℕ) → k < 16 → k < n → get_or v k 0 ≡ f k) →
    ((k : ℕ) → n ≤ k → k < 16 → get_or v k 0 ≡ 0) → v ≡ codes_of n f
unfolding codes_of
codes-is n f v e below beyond =
    table_is 0 (entry_of n f) 16 v e λ k less.
    by-entry n k (λ h. below k less h ∙ sym (entry-below n f k h)) (λ h. beyond k h less ∙ sym (entry-beyond n f k h))

-- a vector of zeros
pub codes-zero : (n : ℕ) (f : ℕ → ℕ) → ((k : ℕ) → k < n → f k ≡ 0) → zero_vector ≡ codes_of n f
unfolding zero_vector
codes-zero n f none =
    codes-is n f zero_vector (length-replicate {A = ℕ} 16 0) (λ k less h. get_or-replicate {A = ℕ} 16 k 0 0 less ∙ sym (none k h))
    (λ k h less. get_or-replicate {A = ℕ} 16 k 0 0 less)

-- one entry stored
pub codes-set :
    (n : ℕ) (f g : ℕ → ℕ) (i x : ℕ) → n ≤ 16 → i < n → x ≡ g i → ((k : ℕ) → k < n → (k ≡ i → ⊥) → f k ≡ g k) →
    set (codes_of n f) i x ≡ codes_of n g
unfolding codes_of
codes-set n f g i x few inside here there =
    table-set 0 (entry_of n f) (entry_of n g) 16 i x (omega arith) (here ∙ sym (entry-below n g i inside)) λ k less unlike.
    by-entry n k (λ h. entry-below n f k h ∙ there k h unlike ∙ sym (entry-below n g k h))
    (λ h. entry-beyond n f k h ∙ sym (entry-beyond n g k h))

-- merging: f held, g said
pub codes_merged :
    (n own sender : ℕ) (f g h : ℕ → ℕ) → n ≤ 16 → f own ≡ h own →
    ((k : ℕ) → k < n → (k ≡ own → ⊥) → merge_entry (f k) (g k) ≡ h k) →
    (merging n own sender (codes_of n g) (codes_of n f)).codes ≡ codes_of n h
codes_merged n own sender f g h few here there =
    codes-is n h (merging n own sender (codes_of n g) (codes_of n f)).codes
    (merging-length n own sender (codes_of n g) (codes_of n f) ∙ codes-length n f)
    (λ k less below. by_equal k own
    (λ e. merging_else n own sender (codes_of n g) (codes_of n f) k (ap (is_other n own) e ∙ other-own n own) ∙ codes_at n f k few below
    ∙ ap f e ∙ here ∙ ap h (sym e))
    (λ e. merging-at n own sender (codes_of n g) (codes_of n f) k (omega (arith, codes-length n f)) below e
    ∙ ap (λ x. merge_entry x (get_or (codes_of n g) k 0)) (codes_at n f k few below)
    ∙ ap (merge_entry (f k)) (codes_at n g k few below) ∙ there k below e))
    (λ k high less. merging_else n own sender (codes_of n g) (codes_of n f) k (other-beyond n own k high) ∙ codes-beyond n f k high less)

-- where all entries below n are the code, they weigh what all sites weigh
pub weigh-all :
    (weight : ℕ → ℕ) (n : ℕ) (v : List ℕ) (code : ℕ) → ((k : ℕ) → k < n → get_or v k 0 ≡ code) →
    weigh weight n v code ≡ sum_to weight n
unfolding weigh sum_to entry_weight
weigh-all weight zero v code all = refl
weigh-all weight (suc n) v code all =
    omega (
      arith,
      weigh-all weight n v code (λ k h. all k (omega arith)),
      pick-on (eqb (get_or v n 0) code) (weight n) 0 (eq-eqb (get_or v n 0) code (all n (omega arith))),
    )

-- where none is an outcome, the lowest site shows none
pub lowest_of_none : (n : ℕ) (v : List ℕ) → ((k : ℕ) → k < n → is_outcome (get_or v k 0) ≡ false) → lowest_outcome n v ≡ 0
unfolding lowest_outcome
lowest_of_none zero v none = refl
lowest_of_none (suc n) v none =
    lowest-none n v (lowest_of_none n v (λ k h. none k (omega arith))) (none n (omega arith))

-- codes to 5 are what 10 wants
pub codes_known_lem : (n : ℕ) (v : List ℕ) → ((k : ℕ) → k < n → get_or v k 0 ≤ 5) → codes_known n v ≡ true
unfolding codes_known
codes_known_lem zero v low = refl
codes_known_lem (suc n) v low =
    both-on (codes_known n v) (leb (get_or v n 0) 5) (codes_known_lem n v (λ k h. low k (omega arith)))
    (le-leb (get_or v n 0) 5 (low n (omega arith)))
