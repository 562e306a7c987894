-- The weights of a competition's sites (request (vi)): sixteen, 0 from n up.
use Rattle.std.specs.Prelude.{ℕ, zero, suc, Bool, List, ltb, leb, eqb, get_or, replicate}
use Rattle.choice.specs.Choice.{pick, both}
use Rattle.choice.specs.Places.{sum_to, all_below, stored_to}

-- the weight of a site
unfoldable pub weight_of : List ℕ → ℕ → ℕ
weight_of weights i = get_or weights i 0

-- W, the sum of the weights
unfoldable pub total_weight : List ℕ → ℕ
total_weight weights = sum_to (weight_of weights) 16

-- the larger of two numbers
unfoldable pub larger : ℕ → ℕ → ℕ
larger a b = pick (ltb a b) b a

-- the largest of f's values below k, 0 for none
unfoldable pub largest_to : (ℕ → ℕ) → ℕ → ℕ
largest_to f zero = 0
largest_to f (suc k) = larger (largest_to f k) (f k)

-- h, the largest weight
unfoldable pub largest_weight : List ℕ → ℕ
largest_weight weights = largest_to (weight_of weights) 16

-- a site's weight: 1 to 255 below n, and 0 from n up
unfoldable pub valid_weight : ℕ → ℕ → ℕ → Bool
valid_weight n i weight = pick (ltb i n) (both (ltb 0 weight) (leb weight 255)) (eqb weight 0)

-- each of the sixteen is so
unfoldable pub valid_weights : ℕ → List ℕ → Bool
valid_weights n weights = all_below (λ i. valid_weight n i (weight_of weights i)) 16

-- sixteen weights: f's values below n, and 0 from n up
unfoldable pub weights_by : (ℕ → ℕ) → ℕ → List ℕ
weights_by f n = stored_to f n (replicate 16 0)

-- a first-edition list's: 1 for each site
unfoldable pub even_weights : ℕ → List ℕ
even_weights n = weights_by (λ _. 1) n
