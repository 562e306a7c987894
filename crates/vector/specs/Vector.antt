-- A vector of codes: what a site knows of each site. Each definition goes over the entries below a count.
use Rattle.std.specs.Prelude.{ℕ, zero, suc, ◌+◌, Bool, true, List, ltb, leb, eqb, get_or}
use Rattle.choice.specs.Choice.{pick, both}
use Rattle.vector.specs.Codes.{is_outcome}

-- what one entry adds to the weight of a code
unfoldable pub entry_weight : ℕ → ℕ → ℕ → ℕ
entry_weight weight held code = pick (eqb held code) weight 0

-- the weight of the entries below n that are the code
unfoldable pub weigh : (ℕ → ℕ) → ℕ → List ℕ → ℕ → ℕ
weigh weight zero v code = 0
weigh weight (suc k) v code = weigh weight k v code + entry_weight (weight k) (get_or v k 0) code

-- how many entries below n are the code: each weighs 1
unfoldable pub count : ℕ → List ℕ → ℕ → ℕ
count n v code = weigh (λ _. 1) n v code

-- the first of two codes that is an outcome, or 0
unfoldable pub first_outcome : ℕ → ℕ → ℕ
first_outcome a b = pick (is_outcome a) a (pick (is_outcome b) b 0)

-- the outcome that the lowest site shows among those below n, or 0
unfoldable pub lowest_outcome : ℕ → List ℕ → ℕ
lowest_outcome zero v = 0
lowest_outcome (suc k) v = first_outcome (lowest_outcome k v) (get_or v k 0)

-- an entry as 17 wants it: at most 5, and 0 from n up
unfoldable pub valid_entry : ℕ → ℕ → ℕ → Bool
valid_entry n k code = pick (ltb k n) (leb code 5) (eqb code 0)

-- the entries below k are as 17 wants them
unfoldable pub valid_entries : ℕ → ℕ → List ℕ → Bool
valid_entries n zero v = true
valid_entries n (suc k) v = both (valid_entries n k v) (valid_entry n k (get_or v k 0))

-- a vector as 17 wants it
unfoldable pub valid_vector : ℕ → List ℕ → Bool
valid_vector n v = valid_entries n 16 v
