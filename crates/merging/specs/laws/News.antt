-- The news of a merge: how many entries of other sites rise.
use Rattle.std.specs.Prelude.{ℕ, List, get_or}
use Rattle.choice.specs.Choice.{pick}
use Rattle.choice.specs.Places.{sum_to}
use Rattle.merging.specs.Merging.{rises, is_other}

-- 1 if the entry of site k rises
unfoldable pub gain : List ℕ → List ℕ → ℕ → ℕ
gain said v k = pick (rises (get_or v k 0) (get_or said k 0)) 1 0

-- what the entry of site k adds to the news of a delivery: 1 if it is another site's, and rises
unfoldable pub share : ℕ → ℕ → List ℕ → List ℕ → ℕ → ℕ
share n own said v k = pick (is_other n own k) (gain said v k) 0

-- HOW MANY entries of other sites below m rise
unfoldable pub risen : ℕ → ℕ → ℕ → List ℕ → List ℕ → ℕ
risen m n own said v = sum_to (share n own said v) m
