-- Codes: 0 unknown or active, 1 prepared, 2 in commit group, 3 in abort group, 4 committed, 5 aborted.
use Rattle.std.specs.Prelude.{ℕ, Bool, ltb, eqb}
use Rattle.choice.specs.Choice.{pick, either}

-- level: 0; 1; 2 for codes 2 and 3; 3 for codes 4 and 5 (and above, which 10 and 17 keep out)
unfoldable pub level : ℕ → ℕ
level c = pick (ltb c 2) c (pick (ltb c 4) 2 3)

-- an entry is 4 or 5
unfoldable pub is_outcome : ℕ → Bool
is_outcome c = either (eqb c 4) (eqb c 5)
