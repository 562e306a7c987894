-- Demand 3 of a history: what is claimed of all records that the sites of a competition have written, whatever led to them.
use Rattle.std.specs.Prelude.{ℕ, ◌+◌, ◌≤◌, ◌<◌, min, true, List, [], ◌∷◌, ◌≡◌, eqb}
use Rattle.choice.specs.Choice.{pick, both}
use Rattle.bits.specs.Bits.{has_bit}
use Rattle.site.specs.Records.{Written, record_code}

-- how many records of a history lead to the code: 1 prepare; 2 and 3 the groups commit and abort; 4 and 5 the outcomes commit and abort
unfoldable pub written : ℕ → List Written → ℕ
written code [] = 0
written code (r ∷ H) = pick (eqb (record_code r.what) code) 1 0 + written code H

-- how many of them were written at site j
unfoldable pub written_at : ℕ → ℕ → List Written → ℕ
written_at j code [] = 0
written_at j code (r ∷ H) = pick (both (eqb r.site j) (eqb (record_code r.what) code)) 1 0 + written_at j code H

-- how many different outcomes are in a history
unfoldable pub outcomes : List Written → ℕ
outcomes H = min 1 (written 4 H) + min 1 (written 5 H)

-- DEMAND 3 of a history H of a competition of n sites: at most one outcome; with a commit exactly n prepare records, one at each site,
-- and every site willing; no site with two group records or two outcome records
pub record Safe (n willing : ℕ) (H : List Written) : Type 0 where
  pub one-outcome : outcomes H ≤ 1
  pub all-prepared : 1 ≤ written 4 H → written 1 H ≡ n
  pub prepared-once : 1 ≤ written 4 H → (j : ℕ) → j < n → written_at j 1 H ≡ 1
  pub all-willing : 1 ≤ written 4 H → (j : ℕ) → j < n → has_bit willing j ≡ true
  pub one-group : (j : ℕ) → written_at j 2 H + written_at j 3 H ≤ 1
  pub one-outcome-at : (j : ℕ) → written_at j 4 H + written_at j 5 H ≤ 1
