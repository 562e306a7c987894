-- What a row that passes 10 is known to be.
use Rattle.std.specs.Prelude.{ℕ, ◌<◌, true, ◌≡◌, ltb, leb}
use Rattle.std.proofs.Common.{ltb-true}
use Rattle.choice.specs.Choice.{both}
use Rattle.choice.specs.laws.ChoiceLaws.{both_first, both-second}
use Rattle.row.specs.declared.Row.{Row}
use Rattle.row.specs.Rows.{codes_known, row_known}

pub known-sender : (n : ℕ) (r : Row) → row_known n r ≡ true → r.sender < n
unfolding row_known
known-sender n r e =
    ltb-true r.sender n
    (both_first (ltb r.sender n) (codes_known n r.codes)
    (both-second (both (leb 1 r.kind) (leb r.kind 7)) (both (ltb r.sender n) (codes_known n r.codes)) e))
