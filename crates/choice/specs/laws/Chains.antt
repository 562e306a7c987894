-- What a chain over a list gives, said place by place: a test of each element, a sum over the elements.
use Rattle.std.specs.Prelude.{ℕ, zero, suc, ◌+◌, ◌<◌, ◌≤◌, Bool, true, false, List, [], ◌∷◌, ◌≡◌, ◌↔◌, IsTrue, refl, length, get_or, take, All, sum_by}
use Rattle.std.proofs.Common.{ap, sym, ◌∙◌, arith}
use Rattle.std.proofs.lemmas.Bool.{false≢true}
use Rattle.std.proofs.lemmas.List.{length-take-le, get_or-take, get_or_default}
use Rattle.std.proofs.lemmas.List.Sums.{sum_by-cons}
use Rattle.choice.specs.Places.{sum_to, all_below}
use Rattle.choice.specs.laws.Cases.{by_test}
use Rattle.choice.specs.laws.Stores.{all-each, all-on}

-- an answer that is yes just where the test holds at each place
pub all-when : (test : ℕ → Bool) (k : ℕ) (r : Bool) → (IsTrue r ↔ ((i : ℕ) → i < k → test i ≡ true)) → r ≡ all_below test k
all-when test k true e = sym (all-on test k (e.0 refl))
all-when test k false e = by_test (all_below test k) (λ h. absurd (false≢true (e.1 (all-each test k h)))) (λ h. sym h)

-- the same of a list's first elements
pub all-first :
    (test : ℕ → Bool) (xs : List ℕ) (n : ℕ) (r : Bool) → n ≤ length xs → (IsTrue r ↔ All (λ x. test x ≡ true) (take n xs)) →
    r ≡ all_below (λ i. test (get_or xs i 0)) n
all-first test xs n r h e =
    let size : length (take n xs) ≡ n = length-take-le n xs h in
    let at : (i : ℕ) (d : ℕ) → i < n → get_or (take n xs) i d ≡ get_or xs i 0 = λ i d below. get_or-take n xs i d below ∙ get_or_default xs i d 0 (omega arith) in
    all-when (λ i. test (get_or xs i 0)) n r
    (λ yes i below. rw (← (at i 0 below)) (e.0 yes i 0 (omega arith)), λ each. e.1 (λ i d below. rw (at i d (omega arith)) (each i (omega arith))))

-- the first place apart
sum-front : (f : ℕ → ℕ) (k : ℕ) → sum_to f (suc k) ≡ f 0 + sum_to (λ i. f (suc i)) k
unfolding sum_to
sum-front f zero = omega arith
sum-front f (suc k) = omega (arith, sum-front f k)

-- a sum over the elements
pub sum-at : {X : Type 0} (f : X → ℕ) (d : X) (xs : List X) (k : ℕ) → length xs ≡ k → sum_by f xs ≡ sum_to (λ i. f (get_or xs i d)) k
sum-at f d [] k e = rw (← e) (unfold sum_to in refl)
sum-at f d (x ∷ xs) k e =
    rw (← e) (sum_by-cons f x xs ∙ ap (λ n. f x + n) (sum-at f d xs (length xs) refl) ∙ sym (sum-front (λ i. f (get_or (x ∷ xs) i d)) (length xs)))
