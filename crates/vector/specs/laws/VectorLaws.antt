-- Laws of the lowest outcome, and of what entries weigh.
use Rattle.std.specs.Prelude.{ℕ, zero, suc, ◌+◌, ◌<◌, ◌≤◌, Bool, true, false, cond, List, ◌≡◌, refl, eqb, length, get_or, take, count_by}
use Rattle.std.proofs.Common.{ap, sym, ◌∙◌, arith}
use Rattle.std.proofs.lemmas.List.{length-take-le, get_or-take}
use Rattle.choice.specs.Choice.{pick}
use Rattle.choice.specs.Places.{sum_to}
use Rattle.choice.specs.laws.Chains.{sum-at}
use Rattle.choice.specs.laws.Stores.{sum_same}
use Rattle.choice.specs.laws.Cases.{by_equal}
use Rattle.vector.specs.Codes.{is_outcome}
use Rattle.vector.specs.Vector.{entry_weight, weigh, count, first_outcome, lowest_outcome}

-- an outcome already found stays
first_found : (a b : ℕ) → is_outcome a ≡ true → first_outcome a b ≡ a
unfolding first_outcome
first_found a b e = rw e

-- after none, the next entry decides
pub lowest-found :
    (k n : ℕ) (v : List ℕ) → k < n → lowest_outcome k v ≡ 0 → is_outcome (get_or v k 0) ≡ true →
    lowest_outcome n v ≡ get_or v k 0
unfolding lowest_outcome first_outcome is_outcome
lowest-found k zero v h none e = absurd (omega arith)
lowest-found k (suc n) v h none e =
    by_equal k n (λ q. rw (← q, none, e))
    (λ q. let p : lowest_outcome n v ≡ get_or v k 0 = lowest-found k n v (omega arith) none e in
    first_found (lowest_outcome n v) (get_or v n 0) (rw p e) ∙ p)

-- one entry more that is none
pub lowest-none :
    (k : ℕ) (v : List ℕ) → lowest_outcome k v ≡ 0 → is_outcome (get_or v k 0) ≡ false → lowest_outcome (suc k) v ≡ 0
unfolding lowest_outcome first_outcome is_outcome
lowest-none k v none e = rw (none, e)

-- the weight as a sum over places
weigh-sum : (weight : ℕ → ℕ) (n : ℕ) (v : List ℕ) (code : ℕ) → weigh weight n v code ≡ sum_to (λ k. entry_weight (weight k) (get_or v k 0) code) n
unfolding weigh sum_to
weigh-sum weight zero v code = refl
weigh-sum weight (suc n) v code = ap (λ x. x + entry_weight (weight n) (get_or v n 0) code) (weigh-sum weight n v code)

-- one or the other, in std's words and in ours
pick-cond : {X : Type 0} (t : Bool) (a b : X) → cond t a b ≡ pick t a b
pick-cond true a b = refl
pick-cond false a b = refl

-- the entries that are the code, counted
pub count-entries : (v : List ℕ) (n code : ℕ) → n ≤ length v → count_by (λ held. eqb held code) (take n v) ≡ count n v code
unfolding entry_weight count
count-entries v n code l =
    let f : ℕ → ℕ = λ held. cond (eqb held code) 1 0 in
    sum-at f 0 (take n v) n (length-take-le n v l)
    ∙ sum_same (λ k. f (get_or (take n v) k 0)) (λ k. entry_weight 1 (get_or v k 0) code) n
    (λ k below. ap f (get_or-take n v k 0 below) ∙ pick-cond (eqb (get_or v k 0) code) 1 0)
    ∙ sym (weigh-sum (λ _. 1) n v code)
