-- Laws of weights.
use Rattle.std.specs.Prelude.{ℕ, zero, suc, ◌+◌, ◌-◌, ◌*◌, ◌≤◌, ◌<◌, true, List, ◌≡◌, refl, ltb, leb, eqb, replicate, length, All, Contains}
use Rattle.std.proofs.Common.{ap, sym, ◌∙◌, ◌++◌, min, drop, suc-mul, arith, lt-ltb, le-ltb, le-leb, ltb-true, ltb-false, leb-true, eqb-true, eq-eqb}
use Rattle.std.proofs.lemmas.List.{length-replicate, get_or-replicate, get_or_default}
use Rattle.choice.specs.Choice.{pick, both}
use Rattle.choice.specs.Places.{sum_to, stored_to}
use Rattle.choice.specs.laws.Cases.{by_test, by_equal}
use Rattle.choice.specs.laws.ChoiceLaws.{pick_ind, both-on, both_first, both-second}
use Rattle.choice.specs.laws.Stores.{stored_at, stored_else, stored_past, stored_before, sum_same, sum_least, sum_cut, sum_times, all-each, all-on}
use Rattle.weights.specs.Weights.{weight_of, total_weight, larger, largest_to, largest_weight, valid_weight, valid_weights, weights_by, even_weights}

-- the larger of two is no more than their sum
larger_sum : (a b : ℕ) → larger a b ≤ a + b
unfolding larger
larger_sum a b = pick_ind (λ x. x ≤ a + b) (ltb a b) b a (λ _. omega arith) (λ _. omega arith)

-- the largest is no more than the sum
pub largest_sum : (f : ℕ → ℕ) (k : ℕ) → largest_to f k ≤ sum_to f k
unfolding largest_to sum_to
largest_sum f zero = omega arith
largest_sum f (suc k) = omega (arith, larger_sum (largest_to f k) (f k), largest_sum f k)

-- the test of a byte, below n and from n up
pub below-valid : (n i weight : ℕ) → i < n → weight < 256 → valid_weight n i weight ≡ ltb 0 weight
unfolding valid_weight
below-valid n i weight h small =
    rw (lt-ltb i n h, le-leb weight 255 (omega arith)) (by_test (ltb 0 weight) (λ e. rw e) (λ e. rw e))

pub above-valid : (n i weight : ℕ) → n ≤ i → valid_weight n i weight ≡ eqb weight 0
unfolding valid_weight
above-valid n i weight h = rw (le-ltb i n h)

pub byte-valid : (n i weight : ℕ) → weight < 256 → pick (ltb i n) (ltb 0 weight) (eqb weight 0) ≡ valid_weight n i weight
byte-valid n i weight small =
    by_test (ltb i n) (λ e. rw e (sym (below-valid n i weight (ltb-true i n e) small))) (λ e. rw e (sym (above-valid n i weight (ltb-false i n e))))

-- the weights that are stored

pub weight_listed : (f : ℕ → ℕ) (n i : ℕ) → i < n → i < 16 → weight_of (weights_by f n) i ≡ f i
unfolding weight_of weights_by
weight_listed f n i below h = stored_at f n (replicate 16 0) i below (rw (length-replicate {A = ℕ} 16 0) h)

weight-past : (f : ℕ → ℕ) (n i : ℕ) → n ≤ i → i < 16 → weight_of (weights_by f n) i ≡ 0
unfolding weight_of weights_by
weight-past f n i past h = stored_else f n (replicate 16 0) i past ∙ get_or-replicate 16 i 0 0 h

-- from sixteen sites up they are those of sixteen
pub weights-most : (f : ℕ → ℕ) (n : ℕ) → 16 ≤ n → weights_by f 16 ≡ weights_by f n
unfolding weights_by
weights-most f n many = sym (stored_past f n (replicate 16 0) (rw (length-replicate {A = ℕ} 16 0) many) ∙ ap (λ k. stored_to f k (replicate 16 0)) (length-replicate {A = ℕ} 16 0))

-- however the least of n and sixteen is told
pub capped_weights : (f : ℕ → ℕ) (n few : ℕ) → (n < 16 → few ≡ n) → (16 ≤ n → few ≡ 16) → weights_by f few ≡ weights_by f n
capped_weights f n few below past =
    by_test (ltb n 16) (λ e. ap (weights_by f) (below (ltb-true n 16 e))) (λ e. rw (past (ltb-false n 16 e)) (weights-most f n (ltb-false n 16 e)))

pub few_weights : (f : ℕ → ℕ) (n : ℕ) → weights_by f (min n 16) ≡ weights_by f n
few_weights f n = capped_weights f n (min n 16) (λ below. omega (arith, below)) (λ past. omega (arith, past))

-- ones, and zeros after them
pub ones_first : (k : ℕ) → k ≤ 16 → replicate k 1 ++ drop k (replicate 16 0) ≡ weights_by (λ _. 1) k
unfolding weights_by
ones_first k h = stored_before (λ _. 1) k (replicate 16 0) (replicate k 1) (length-replicate k 1) (λ i l. get_or-replicate k i 1 0 l) h

-- weights that 21 does not refuse, site by site
pub record Weighed (n : ℕ) (weights : List ℕ) : Type 0 where
  pub some : (i : ℕ) → i < n → i < 16 → 0 < weight_of weights i
  pub few : (i : ℕ) → i < n → i < 16 → weight_of weights i ≤ 255
  pub none : (i : ℕ) → n ≤ i → i < 16 → weight_of weights i ≡ 0

pub weighed : (n : ℕ) (weights : List ℕ) → valid_weights n weights ≡ true → Weighed n weights
unfolding valid_weights valid_weight
weighed n weights e =
    let test : (i : ℕ) → i < 16 → valid_weight n i (weight_of weights i) ≡ true = all-each (λ i. valid_weight n i (weight_of weights i)) 16 e in
    let inside : (i : ℕ) → i < n → i < 16 → both (ltb 0 (weight_of weights i)) (leb (weight_of weights i) 255) ≡ true =
    λ i below h. rw (lt-ltb i n below) at (test i h) in
    record {
      some = λ i below h. ltb-true 0 (weight_of weights i) (both_first (ltb 0 (weight_of weights i)) (leb (weight_of weights i) 255) (inside i below h));
      few = λ i below h. leb-true (weight_of weights i) 255 (both-second (ltb 0 (weight_of weights i)) (leb (weight_of weights i) 255) (inside i below h));
      none = λ i past h. eqb-true (weight_of weights i) 0 (rw (le-ltb i n past) at (test i h));
    }

pub weighing : (n : ℕ) (weights : List ℕ) → Weighed n weights → valid_weights n weights ≡ true
unfolding valid_weights valid_weight
weighing n weights w =
    all-on (λ i. valid_weight n i (weight_of weights i)) 16 λ i h.
    pick_ind (λ x. x ≡ true) (ltb i n) (both (ltb 0 (weight_of weights i)) (leb (weight_of weights i) 255)) (eqb (weight_of weights i) 0)
    (λ below. both-on (ltb 0 (weight_of weights i)) (leb (weight_of weights i) 255) (lt-ltb 0 (weight_of weights i) (w.some i (ltb-true i n below) h))
    (le-leb (weight_of weights i) 255 (w.few i (ltb-true i n below) h)))
    (λ past. eq-eqb (weight_of weights i) 0 (w.none i (ltb-false i n past) h))

-- sixteen weights of at most 255
pub total-most : (weights : List ℕ) → ((i : ℕ) → i < 16 → weight_of weights i ≤ 255) → total_weight weights ≤ 4080
unfolding total_weight
total-most weights few = omega (arith, sum_least (weight_of weights) (λ _. 255) 16 few, sum_times 255 16)

-- all weigh what the sites below n weigh
pub total-below : (n : ℕ) (weights : List ℕ) → n ≤ 16 → Weighed n weights → total_weight weights ≡ sum_to (weight_of weights) n
unfolding total_weight
total-below n weights high w = sum_cut (weight_of weights) n 16 high w.none

-- the largest is as large as each, and no larger than what none exceeds
largest-each : (f : ℕ → ℕ) (k i : ℕ) → i < k → f i ≤ largest_to f k
unfolding largest_to larger
largest-each f zero i h = absurd (omega arith)
largest-each f (suc k) i h =
    pick_ind (λ x. f i ≤ x) (ltb (largest_to f k) (f k)) (f k) (largest_to f k)
    (λ e. by_equal i k (λ q. omega (arith, ap f q)) (λ q. omega (arith, largest-each f k i (omega arith), ltb-true (largest_to f k) (f k) e)))
    (λ e. by_equal i k (λ q. omega (arith, ap f q, ltb-false (largest_to f k) (f k) e)) (λ q. largest-each f k i (omega arith)))

largest-most : (f : ℕ → ℕ) (k most : ℕ) → ((i : ℕ) → i < k → f i ≤ most) → largest_to f k ≤ most
unfolding largest_to larger
largest-most f zero most each = omega arith
largest-most f (suc k) most each =
    pick_ind (λ x. x ≤ most) (ltb (largest_to f k) (f k)) (f k) (largest_to f k) (λ _. each k (omega arith))
    (λ _. largest-most f k most (λ i h. each i (omega arith)))

-- so a weight that is as large as each is the largest
pub largest-of : (weights : List ℕ) (most : ℕ) → length weights ≡ 16 → All (λ x. x ≤ most) weights → Contains weights most → most ≡ largest_weight weights
unfolding largest_weight weight_of
largest-of weights most size each one =
    let e : weight_of weights one.0 ≡ most = get_or_default weights one.0 0 most one.1 ∙ one.2 in
    omega (
      arith,
      e,
      largest-most (weight_of weights) 16 most (λ j h. each j 0 (omega arith)),
      largest-each (weight_of weights) 16 one.0 (omega arith),
    )

-- two numbers are no more than their bound and the larger of them
larger_bound : (a b most : ℕ) → a ≤ most → b ≤ most → a + b ≤ most + larger a b
unfolding larger
larger_bound a b most p q = pick_ind (λ x. a + b ≤ most + x) (ltb a b) b a (λ _. omega arith) (λ _. omega arith)

-- all but a largest are no more than their bound times one less
all-but-largest : (f : ℕ → ℕ) (k most : ℕ) → ((i : ℕ) → i < suc k → f i ≤ most) → sum_to f (suc k) ≤ k * most + largest_to f (suc k)
unfolding sum_to largest_to
all-but-largest f zero most each = omega (arith, largest-each f 1 0 (omega arith))
all-but-largest f (suc k) most each =
    omega (
      arith,
      all-but-largest f k most (λ i h. each i (omega arith)),
      suc-mul k most,
      larger_bound (largest_to f (suc k)) (f (suc k)) most (largest-most f (suc k) most (λ i h. each i (omega arith))) (each (suc k) (omega arith)),
    )

-- W - h is at most 3,825, fifteen times 255
pub rest-most : (n : ℕ) (weights : List ℕ) → Weighed n weights → total_weight weights - largest_weight weights ≤ 3825
unfolding total_weight largest_weight
rest-most n weights w =
    omega (
      arith,
      all-but-largest (weight_of weights) 15 255
          (λ i h. by_test (ltb i n) (λ e. w.few i (ltb-true i n e) h) (λ e. omega (arith, w.none i (ltb-false i n e) h))),
    )

-- where each site weighs 1, as in the first edition: W is n, and h is 1

pub even_one : (n i : ℕ) → i < n → i < 16 → weight_of (even_weights n) i ≡ 1
unfolding even_weights
even_one n i below h = weight_listed (λ _. 1) n i below h

pub even_weighed : (n : ℕ) → Weighed n (even_weights n)
unfolding even_weights
even_weighed n =
    record {
      some = λ i below h. omega (arith, even_one n i below h);
      few = λ i below h. omega (arith, even_one n i below h);
      none = λ i past h. weight-past (λ _. 1) n i past h;
    }

pub even_total : (n : ℕ) → n ≤ 16 → total_weight (even_weights n) ≡ n
even_total n high =
    total-below n (even_weights n) high (even_weighed n)
    ∙ sum_same (weight_of (even_weights n)) (λ _. 1) n (λ i h. even_one n i h (omega arith))
    ∙ omega (arith, sum_times 1 n)

pub even_largest : (n : ℕ) → 0 < n → largest_weight (even_weights n) ≡ 1
unfolding largest_weight
even_largest n some =
    let first : weight_of (even_weights n) 0 ≡ 1 = even_one n 0 some (omega arith) in
    omega (
      arith,
      first,
      largest-each (weight_of (even_weights n)) 16 0 (omega arith),
      largest-most (weight_of (even_weights n)) 16 1
          (λ i h. by_test (ltb i n) (λ e. omega (arith, even_one n i (ltb-true i n e) h)) (λ e. omega (arith, (even_weighed n).none i (ltb-false i n e) h))),
    )

-- and where weights are these, place by place, so are their sum, the largest, and whether they are valid

largest-same : (f g : ℕ → ℕ) (k : ℕ) → ((i : ℕ) → i < k → f i ≡ g i) → largest_to f k ≡ largest_to g k
unfolding largest_to
largest-same f g zero each = refl
largest-same f g (suc k) each =
    ap (λ x. larger x (f k)) (largest-same f g k (λ i h. each i (omega arith))) ∙ ap (larger (largest_to g k)) (each k (omega arith))

module _ (n : ℕ) (weights : List ℕ) (some : 0 < n) (high : n ≤ 16) (even_each : (i : ℕ) → i < 16 → weight_of weights i ≡ weight_of (even_weights n) i) where
  pub even_valid : valid_weights n weights ≡ true
  even_valid =
      let w : Weighed n (even_weights n) = even_weighed n in
      weighing n weights
      (record {
        some = λ i below h. omega (arith, even_each i h, w.some i below h);
        few = λ i below h. omega (arith, even_each i h, w.few i below h);
        none = λ i past h. even_each i h ∙ w.none i past h;
      })

  pub total-is : total_weight weights ≡ n
  unfolding total_weight
  total-is = sum_same (weight_of weights) (weight_of (even_weights n)) 16 even_each ∙ even_total n high

  pub largest-is : largest_weight weights ≡ 1
  unfolding largest_weight
  largest-is = largest-same (weight_of weights) (weight_of (even_weights n)) 16 even_each ∙ even_largest n some
