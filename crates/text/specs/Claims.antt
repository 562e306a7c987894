-- What is claimed of decimals: the digits are the number's, with no nought before them.
use Rattle.std.specs.Prelude.{ℕ, ◌+◌, ◌*◌, ◌-◌, ◌<◌, ◌≤◌, List, [], ◌∷◌, ◌≡◌, get_or}
use Rattle.text.specs.Text.{decimal}

-- the number that digits stand for, after a number read before them
unfoldable pub read_from : ℕ → List ℕ → ℕ
read_from v [] = v
read_from v (d ∷ s) = read_from (10 * v + (d - 48)) s

abbrev pub DecimalReads : Type 0
DecimalReads = (x : ℕ) → x < 1000000 → read_from 0 (decimal x) ≡ x

abbrev pub NoLeadingNought : Type 0
NoLeadingNought = (x : ℕ) → 10 ≤ x → x < 1000000 → get_or (decimal x) 0 0 ≡ 48 → ⊥
