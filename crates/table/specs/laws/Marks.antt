-- Marks: one for each row number of each competition, put where a place holds it.
use Rattle.std.specs.Prelude.{ℕ, zero, suc, ◌+◌, ◌*◌, Bool, true, List, eqb, get_or, set}
use Rattle.choice.specs.Choice.{both}
use Rattle.choice.specs.Places.{all_below}
use Rattle.table.specs.Table.{held_well}

-- a place is free, or holds a row below its competition's row count that has no mark yet
unfoldable pub is_new : (ℕ → ℕ) → List ℕ → ℕ → Bool
is_new rows marks zero = true
is_new rows marks (suc y) = both (held_well rows (suc y)) (eqb (get_or marks y 0) 0)

-- the marks after such a place
unfoldable pub with_mark : List ℕ → ℕ → List ℕ
with_mark marks zero = marks
with_mark marks (suc y) = set marks y 1

-- the rows of competition c below a count are marked
unfoldable pub rows_marked : List ℕ → ℕ → ℕ → Bool
rows_marked marks c count = all_below (λ k. eqb (get_or marks (1024 * c + k) 0) 1) count

-- every row of every competition is marked
unfoldable pub all_marked : (ℕ → ℕ) → List ℕ → Bool
all_marked rows marks = all_below (λ c. rows_marked marks c (rows c)) 16
