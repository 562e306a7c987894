-- What a command makes its site do, told of its world's head and store. 8 is asked before.
use Rattle.std.specs.Prelude.{ℕ, List, Result, Ok, Err, ltb}
use Rattle.choice.specs.Choice.{pick}
use Rattle.refusals.specs.declared.Reason.{Reason}
use Rattle.refusals.specs.declared.Reason.TheVariants as Reason·
use Rattle.bits.specs.Bits.{has_bit}
use Rattle.row.specs.Rows.{get_row}
use Rattle.site.specs.declared.Site.{Site}
use Rattle.rules.specs.Rules.{Move}
use Rattle.participant.specs.Turns.{start_turn, deliver_turn, timeout_turn, crash_turn, recover_turn}
use Rattle.command.specs.declared.Delivery.{Delivery}
use Rattle.command.specs.declared.Command.{Command}
use Rattle.command.specs.declared.Command.TheVariants as Command·
use Rattle.play.specs.declared.Head.{Head}

-- DELIVER: 9 row number not below the row count
unfoldable pub delivery_turn : Delivery → Head → List ℕ → Site → Result Move Reason
delivery_turn d h store s =
    pick (ltb d.row h.rows) (deliver_turn d.site h.sizes.n (has_bit h.sizes.willing d.site) (get_row store d.row) s)
    (Err Reason·.NoSuchRow)

unfoldable pub turn_of : Command → Head → List ℕ → Site → Result Move Reason
turn_of Command·.Start h store s = start_turn 0 h.sizes.n (has_bit h.sizes.willing 0) s
turn_of (Command·.Deliver d) h store s = delivery_turn d h store s
turn_of (Command·.Timeout t) h store s = timeout_turn t.site h.sizes.n h.sizes.weights h.sizes.commit h.sizes.abort s
turn_of (Command·.Crash t) h store s = crash_turn t.site s
turn_of (Command·.Recover t) h store s = recover_turn t.site s
