-- What a member is told, as bytes: 1 START, 2 DELIVER with the twenty bytes of a row, 3 TIMEOUT, 4 CRASH, 5 RECOVER. There is no site to name and no
-- row number. Refusals: 6 none left or not 1 to 5; 7 operands cut short. What follows a command's bytes is not read.
use Rattle.std.specs.Prelude.{ℕ, List, ltb, leb, eqb, length, get_or}
use Rattle.choice.specs.Choice.{pick, both}
use Rattle.refusals.specs.declared.Reason.{Reason}
use Rattle.refusals.specs.declared.Reason.TheVariants as Reason·
use Rattle.refusals.specs.Refusals.{number_of}
use Rattle.row.specs.declared.Row.{Row}
use Rattle.row.specs.Rows.{row_at}
use Rattle.member.specs.declared.Order.{Order}
use Rattle.member.specs.declared.Order.TheVariants as Order·
use Rattle.member.specs.Hearings.{Heard}
use Rattle.std.specs.Prelude.{Ok, Err}

unfoldable pub refused_with : Reason → Heard
refused_with reason = Err reason

-- the row that a delivery's bytes hold
unfoldable pub row_in : List ℕ → Row
row_in bytes = row_at bytes 1

-- DELIVER with the row's bytes
unfoldable pub read_row : List ℕ → Heard
read_row bytes = pick (ltb (length bytes) 21) (refused_with Reason·.OperandsCut) (Ok Order·.Deliver)

-- the command byte, by its value
unfoldable pub order_of : ℕ → List ℕ → Heard
order_of byte bytes =
    pick (eqb byte 1) (Ok Order·.Start)
    (pick (eqb byte 2) (read_row bytes)
    (pick (eqb byte 3) (Ok Order·.Timeout)
    (pick (eqb byte 4) (Ok Order·.Crash)
    (pick (eqb byte 5) (Ok Order·.Recover)
    (refused_with Reason·.NoCommand)))))

-- ANY BYTES
unfoldable pub read_order : List ℕ → Heard
read_order bytes = pick (ltb 0 (length bytes)) (order_of (get_or bytes 0 0) bytes) (refused_with Reason·.NoCommand)

-- the number of an answer: a refusal's own; 0 for a command
unfoldable pub heard_number : Heard → ℕ
heard_number (Err reason) = number_of reason
heard_number (Ok o) = 0

-- the same number, said of the bytes
unfoldable pub order_number : List ℕ → ℕ
order_number bytes =
    pick (both (ltb 0 (length bytes)) (both (leb 1 (get_or bytes 0 0)) (leb (get_or bytes 0 0) 5)))
    (pick (both (eqb (get_or bytes 0 0) 2) (ltb (length bytes) 21)) 7 0)
    6
