-- What 17 asks of a vector, said by limits: 5 below n, 0 from n up. They are made once for all vectors of a world.
use Rattle.std.specs.Prelude.{ℕ, zero, suc, ◌≤◌, ◌<◌, Bool, true, false, ◌&&◌, List, ◌++◌, ◌≡◌, ◌≢◌, refl, nat_eq, ltb, leb, eqb, length, get_or, drop, replicate}
use Rattle.std.specs.Bool.{MatchBool}
use Rattle.std.specs.Cmp.Lexicographic.{told_text}
use Rattle.std.specs.List.{fold, zip}
use lib.Pointwise.{pointwise}
use Rattle.std.proofs.lemmas.Slice.Zip.{get_or-zip, length-zip}
use Rattle.std.proofs.Common.{sym, ◌∙◌, arith, le-ltb, le-leb, eq-eqb, ne_eqb, ltb-true, ltb-false, leb-true}
use Rattle.std.proofs.lemmas.List.{ext_get_or, length-replicate, get_or-replicate}
use Rattle.std.proofs.lemmas.Bool.{lt-leb}
use Rattle.choice.specs.Choice.{pick, both}
use Rattle.choice.specs.laws.ChoiceLaws.{pick_off, both_first, both-second}
use Rattle.choice.specs.laws.Cases.{by_test, by_equal}
use Rattle.choice.specs.Places.{stored_to}
use Rattle.choice.specs.laws.EachPlace.{and_both, fold_placed}
use Rattle.choice.specs.laws.Stores.{stored_at, stored_else, stored_before}
use Rattle.vector.specs.Vector.{valid_entry, valid_entries, valid_vector}

-- the limits for n sites
unfoldable pub limits_to : ℕ → List ℕ
limits_to n = stored_to (λ _. 5) n (replicate 16 0)

-- the entries below k are within their limits
unfoldable pub within : ℕ → List ℕ → List ℕ → Bool
within zero limits v = true
within (suc k) limits v = both (within k limits v) (leb (get_or v k 0) (get_or limits k 0))

-- fives before the rest of the noughts
pub limits_filled : (n : ℕ) (fives : List ℕ) → n ≤ 16 → fives ≡ replicate n 5 → fives ++ drop n (replicate 16 0) ≡ limits_to n
unfolding limits_to
limits_filled n fives few e =
    rw e (stored_before (λ _. 5) n (replicate 16 0) (replicate n 5) (length-replicate n 5) (λ i h. get_or-replicate n i 5 0 h) few)

-- what a chain over the codes, each beside its limit, asks
pub folded_within :
    (limits v : List ℕ) (r : Bool) → length limits ≡ 16 → length v ≡ 16 → r ≡ fold (λ before p. before && leb p.0 p.1) true (zip v limits) →
    r ≡ within 16 limits v
unfolding within
folded_within limits v r full whole e =
    let long : length (zip v limits) ≡ 16 = length-zip v limits ∙ omega arith in
    rw long at (fold_placed (λ before (p : ℕ × ℕ). before && leb p.0 p.1) true (zip v limits) (0, 0) (λ k. within k limits v) refl
    (λ k h. let low : k < 16 = rw long at h in
    rw (get_or-zip v limits k (0, 0) (omega arith) (omega arith)) (sym (and_both (within k limits v) (leb (get_or v k 0) (get_or limits k 0))))) r e)

limit_at : (n k : ℕ) → k < 16 → get_or (limits_to n) k 0 ≡ pick (ltb k n) 5 0
unfolding limits_to
limit_at n k small =
    by_test (ltb k n)
    (λ t. rw t (stored_at (λ _. 5) n (replicate 16 0) k (ltb-true k n t) (rw (length-replicate {A = ℕ} 16 0) small)))
    (λ t. rw t (stored_else (λ _. 5) n (replicate 16 0) k (ltb-false k n t) ∙ get_or-replicate 16 k 0 0 small))

-- an entry is at most 0 where it is 0
at_most-zero : (x : ℕ) → leb x 0 ≡ eqb x 0
at_most-zero x =
    by_equal x 0 (λ e. rw (le-leb x 0 (omega arith), eq-eqb x 0 e)) (λ e. rw (lt-leb x 0 (omega arith), ne_eqb x 0 e))

entry_limit : (n k code : ℕ) → leb code (pick (ltb k n) 5 0) ≡ valid_entry n k code
unfolding valid_entry
entry_limit n k code = by_test (ltb k n) (λ e. rw e) (λ e. rw e (at_most-zero code))

entries-within : (n k : ℕ) (v : List ℕ) → k ≤ 16 → within k (limits_to n) v ≡ valid_entries n k v
unfolding within valid_entries
entries-within n zero v small = refl
entries-within n (suc k) v small =
    rw (entries-within n k v (omega arith), limit_at n k (omega arith), entry_limit n k (get_or v k 0))

-- WITHIN THE LIMITS is what 17 asks
pub within-valid : (n : ℕ) (v : List ℕ) → within 16 (limits_to n) v ≡ valid_vector n v
unfolding valid_vector
within-valid n v = entries-within n 16 v (omega arith)

pub folded_valid :
    (n : ℕ) (most v : List ℕ) (r : Bool) → most ≡ limits_to n → length most ≡ 16 → length v ≡ 16 →
    r ≡ fold (λ before p. before && leb p.0 p.1) true (zip v most) → r ≡ valid_vector n v
folded_valid n most v r made full whole e = folded_within most v r full whole e ∙ rw made (within-valid n v)

-- an entry within noughts is 0
entries-zero : (k i : ℕ) (v : List ℕ) → k ≤ 16 → i < k → within k (limits_to 0) v ≡ true → get_or v i 0 ≡ 0
unfolding within
entries-zero zero i v small h e = absurd (omega arith)
entries-zero (suc k) i v small h e =
    by_equal i k
    (λ q.
    let z : get_or v k 0 ≤ get_or (limits_to 0) k 0 =
    leb-true _ _ (both-second (within k (limits_to 0) v) (leb (get_or v k 0) (get_or (limits_to 0) k 0)) e) in
    rw q (omega (arith, z, limit_at 0 k (omega arith), pick_off {A = ℕ} (ltb k 0) 5 0 (le-ltb k 0 (omega arith)))))
    (λ q.
    entries-zero k i v (omega arith) (omega arith)
    (both_first (within k (limits_to 0) v) (leb (get_or v k 0) (get_or (limits_to 0) k 0)) e))

pub within-zeros : (v : List ℕ) (i : ℕ) → i < 16 → within 16 (limits_to 0) v ≡ true → get_or v i 0 ≡ 0
within-zeros v i h e = entries-zero 16 i v (omega arith) h e

-- sixteen noughts, and nothing else, are a vector of no sites
pub noughts_valid : (v : List ℕ) (r : Bool) → length v ≡ 16 → r ≡ pointwise nat_eq v (replicate 16 0) → r ≡ valid_vector 0 v
unfolding valid_vector valid_entries valid_entry
noughts_valid v r full e = go r (told_text v (replicate 16 0) r e)
  where
    go : (r : Bool) → MatchBool r (v ≡ replicate 16 0) (v ≢ replicate 16 0) → r ≡ valid_vector 0 v
    go true same = rw same refl
    go false other =
        by_test (valid_vector 0 v)
        (λ t. absurd (other (ext_get_or 0 v (replicate 16 0) (rw full refl)
        (λ i h. let few : i < 16 = omega (arith, full) in
        within-zeros v i few (within-valid 0 v ∙ t) ∙ sym (get_or-replicate 16 i 0 0 few)))))
        (λ f. sym f)
