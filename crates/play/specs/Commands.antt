-- One command: the refusals in the table's order, then the rule.
-- 16 store too short; 17 world; 6, 7 command byte and operands; 8 to 11 operands; 12 to 14 site; 15 room;
-- 17, checked last, the news.
use Rattle.std.specs.Prelude.{ℕ, List, ltb, length}
use Rattle.choice.specs.Choice.{pick}
use Rattle.row.specs.declared.Row.{Row}
use Rattle.bits.specs.Bits.{has_bit}
use Rattle.row.specs.Rows.{get_row, row_known}
use Rattle.site.specs.State.{state_of, is_active}
use Rattle.rules.specs.Rules.{start, timeout, deliver, crash, recover}
use Rattle.refusals.specs.Refusals.{number_of}
use Rattle.command.specs.declared.Command.{Command}
use Rattle.command.specs.declared.Command.TheVariants as Command·
use Rattle.command.specs.Readings.{Reading}
use Rattle.std.specs.Prelude.{Ok, Err}
use Rattle.command.specs.Commands.{read_command}
use Rattle.world.specs.declared.World.{World}
use Rattle.world.specs.Sizes.{store_bytes}
use Rattle.world.specs.Worlds.{site_of, is_willing}
use Rattle.world.specs.Valid.{valid_world}
use Rattle.play.specs.Calls.{Call, refuse, enter}

-- START: 12 site 0 down; 14 site 0 not active
unfoldable pub start_call : World → List ℕ → ℕ → ℕ → Call
start_call w store at next =
    pick (site_of w 0).up
    (pick (is_active (state_of (site_of w 0))) (enter w store at next 0 (start w.n (is_willing w 0) (site_of w 0)))
    (refuse 14 w store at))
    (refuse 12 w store at)

-- TIMEOUT: 8 site number n or more; 12 down
unfoldable pub timeout_call : World → List ℕ → ℕ → ℕ → ℕ → Call
timeout_call w store at next i =
    pick (ltb i w.n)
    (pick (site_of w i).up (enter w store at next i (timeout i w.n w.weights w.commit w.abort (site_of w i)))
    (refuse 12 w store at))
    (refuse 8 w store at)

-- CRASH: 8; 12 down
unfoldable pub crash_call : World → List ℕ → ℕ → ℕ → ℕ → Call
crash_call w store at next i =
    pick (ltb i w.n)
    (pick (site_of w i).up (enter w store at next i (crash i (site_of w i))) (refuse 12 w store at))
    (refuse 8 w store at)

-- RECOVER: 8; 13 while up
unfoldable pub recover_call : World → List ℕ → ℕ → ℕ → ℕ → Call
recover_call w store at next i =
    pick (ltb i w.n)
    (pick (site_of w i).up (refuse 13 w store at) (enter w store at next i (recover i (site_of w i))))
    (refuse 8 w store at)

-- DELIVER of a row that is there: 10 row not known; 11 site not among its destinations; 12 down
unfoldable pub deliver_row : World → List ℕ → ℕ → ℕ → Row → ℕ → Call
deliver_row w store at next row i =
    pick (row_known w.n row)
    (pick (has_bit row.destinations i)
    (pick (site_of w i).up (enter w store at next i (deliver i w.n (is_willing w i) row (site_of w i)))
    (refuse 12 w store at))
    (refuse 11 w store at))
    (refuse 10 w store at)

-- DELIVER: 8; 9 row number not below the row count
unfoldable pub deliver_call : World → List ℕ → ℕ → ℕ → ℕ → ℕ → Call
deliver_call w store at next k i =
    pick (ltb i w.n)
    (pick (ltb k w.rows) (deliver_row w store at next (get_row store k) i) (refuse 9 w store at))
    (refuse 8 w store at)

-- by command
unfoldable pub perform : Command → World → List ℕ → ℕ → ℕ → Call
perform Command·.Start w store at next = start_call w store at next
perform (Command·.Deliver d) w store at next = deliver_call w store at next d.row d.site
perform (Command·.Timeout t) w store at next = timeout_call w store at next t.site
perform (Command·.Crash t) w store at next = crash_call w store at next t.site
perform (Command·.Recover t) w store at next = recover_call w store at next t.site

-- what was read at a place: a command to perform, or its refusal, 6 or 7, with its place
unfoldable pub perform_read : Reading → World → List ℕ → ℕ → Call
perform_read (Err r) w store at = refuse (number_of r.reason) w store r.place
perform_read (Ok p) w store at = perform p.command w store at p.next

-- the command at a place, in a world that 17 need not be asked of
unfoldable pub play_command : World → List ℕ → List ℕ → ℕ → Call
play_command w store list at = perform_read (read_command list at) w store at

-- ONE COMMAND: any world, any store, any list, any place
unfoldable pub one_command : World → List ℕ → List ℕ → ℕ → Call
one_command w store list at =
    pick (ltb (length store) store_bytes) (refuse 16 w store at)
    (pick (valid_world w) (play_command w store list at) (refuse 17 w store at))
