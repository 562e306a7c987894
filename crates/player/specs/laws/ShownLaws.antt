-- Laws of what the player prints.
use Rattle.std.specs.Prelude.{ℕ, ◌≤◌, true, ◌≡◌, leb}
use Rattle.std.proofs.Common.{arith, leb-true, ne_eqb}
use Rattle.choice.specs.laws.Cases.{by_equal}
use Rattle.choice.specs.laws.ChoiceLaws.{both-second}
use Rattle.player.specs.Shown.{is_header_number}

pub header-small : (k : ℕ) → is_header_number k ≡ true → k ≤ 21
unfolding is_header_number
header-small k e =
    by_equal k 21 (λ q. omega arith)
    (λ q. omega (arith, leb-true k 5 (both-second (leb 1 k) (leb k 5) (rw (ne_eqb k 21 q) at e))))
