-- Over the places below a count: a sum, a test at each, a value stored at each.
use Rattle.std.specs.Prelude.{ℕ, zero, suc, ◌+◌, Bool, true, List, set}
use Rattle.choice.specs.Choice.{both}

-- the sum of f's values below k
unfoldable pub sum_to : (ℕ → ℕ) → ℕ → ℕ
sum_to f zero = 0
sum_to f (suc k) = sum_to f k + f k

-- the test holds at each place below k
unfoldable pub all_below : (ℕ → Bool) → ℕ → Bool
all_below test zero = true
all_below test (suc k) = both (all_below test k) (test k)

-- f's values stored at the places below k
unfoldable pub stored_to : (ℕ → ℕ) → ℕ → List ℕ → List ℕ
stored_to f zero l = l
stored_to f (suc k) l = set (stored_to f k l) k (f k)
