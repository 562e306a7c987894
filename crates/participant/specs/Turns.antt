-- What a site does when it is told something: why it does nothing, or its rule's move. 8 and 9 are asked before.
use Rattle.std.specs.Prelude.{ℕ, Bool, List, Result, Ok, Err, eqb}
use Rattle.choice.specs.Choice.{pick, both}
use Rattle.refusals.specs.declared.Reason.{Reason}
use Rattle.refusals.specs.declared.Reason.TheVariants as Reason·
use Rattle.bits.specs.Bits.{has_bit}
use Rattle.row.specs.declared.Row.{Row}
use Rattle.row.specs.Rows.{row_known}
use Rattle.site.specs.declared.CommitQuorum.{CommitQuorum}
use Rattle.site.specs.declared.AbortQuorum.{AbortQuorum}
use Rattle.site.specs.declared.Site.{Site}
use Rattle.site.specs.State.{state_of, is_active}
use Rattle.rules.specs.declared.Step.{Step}
use Rattle.rules.specs.Rules.{Stepped, Move, start, timeout, deliver, crash, recover}
use Rattle.rules.specs.Steps.{stepped}

-- START: 12 down; 14 not an active site 0
unfoldable pub start_turn : ℕ → ℕ → Bool → Site → Result Move Reason
start_turn own n willing s =
    pick s.up
    (pick (both (eqb own 0) (is_active (state_of s))) (Ok (start n willing s)) (Err Reason·.NotActive))
    (Err Reason·.SiteDown)

-- DELIVER of a row: 10 row not known; 11 site not among its destinations; 12 down
unfoldable pub deliver_turn : ℕ → ℕ → Bool → Row → Site → Result Move Reason
deliver_turn own n willing row s =
    pick (row_known n row)
    (pick (has_bit row.destinations own)
    (pick s.up (Ok (deliver own n willing row s)) (Err Reason·.SiteDown))
    (Err Reason·.NotAddressed))
    (Err Reason·.UnknownRow)

-- TIMEOUT: 12 down
unfoldable pub timeout_turn : ℕ → ℕ → List ℕ → CommitQuorum → AbortQuorum → Site → Result Move Reason
timeout_turn own n weights c a s = pick s.up (Ok (timeout own n weights c a s)) (Err Reason·.SiteDown)

-- CRASH: 12 down
unfoldable pub crash_turn : ℕ → Site → Result Move Reason
crash_turn own s = pick s.up (Ok (crash own s)) (Err Reason·.SiteDown)

-- RECOVER: 13 while up
unfoldable pub recover_turn : ℕ → Site → Result Move Reason
recover_turn own s = pick s.up (Err Reason·.SiteUp) (Ok (recover own s))

-- the step of a turn, as the code has it and as the definition has it

abbrev pub turned : Result Step Reason → Result Stepped Reason
turned (Ok step) = Ok (stepped step)
turned (Err reason) = Err reason

abbrev pub moved : Result Move Reason → Result Stepped Reason
moved (Ok m) = Ok m.step
moved (Err reason) = Err reason
