-- One site's step: the refusals of document 01's table that make sense for one site, in its order, then the rule that the world's call uses.
-- 17 sizes or site; 6, 7 command; 8 site number n or more; 10, 11 row; 12 to 14 site. There is no store, no row number and no room: no 16, 9 and 15.
use Rattle.std.specs.Prelude.{ℕ, Result, Bool, true, false, List, [], ◌∷◌, ltb, eqb}
use Rattle.choice.specs.Choice.{pick, both}
use Rattle.bits.specs.Bits.{has_bit}
use Rattle.refusals.specs.declared.Reason.{Reason}
use Rattle.refusals.specs.Refusals.{number_of}
use Rattle.row.specs.declared.Row.{Row}
use Rattle.row.specs.Rows.{no_row, row_known}
use Rattle.row.specs.Messages.{row_sent}
use Rattle.site.specs.declared.Group.TheVariants as Group·
use Rattle.site.specs.declared.Outcome.TheVariants as Outcome·
use Rattle.site.specs.declared.Site.{Site}
use Rattle.site.specs.State.{state_of, is_active}
use Rattle.site.specs.Records.{Written, LogRecord, prepare_record, group_record, outcome_record, group_of, outcome_of}
use Rattle.rules.specs.Rules.{Move, start, timeout, deliver, crash, recover}
use Rattle.world.specs.Sizes.{sizes_number}
use Rattle.world.specs.Valid.{valid_site}
use Rattle.member.specs.declared.Member.{Member}
use Rattle.member.specs.declared.Order.{Order}
use Rattle.member.specs.declared.Order.TheVariants as Order·
use Rattle.member.specs.Hearings.{Heard}
use Rattle.std.specs.Prelude.{Ok, Err}
use Rattle.member.specs.declared.Logged.{Logged}
use Rattle.member.specs.declared.Taken.{Taken}
use Rattle.member.specs.Orders.{row_in, read_order}

-- what a step gives: number (0: accepted), the next site, the row to send (kind 0: none), how many entries rose, the records written
pub record Answer : Type 0 where
  pub number : ℕ
  pub site : Site
  pub row : Row
  pub news : ℕ
  pub records : List Written

-- a refused step changes nothing and sends nothing
unfoldable pub refuse : ℕ → Site → Answer
refuse number s = record { number = number; site = s; row = no_row; news = 0; records = [] }

-- a rule's move
unfoldable pub take : Move → Answer
take m =
    record { number = 0; site = m.step.site; row = m.step.row; news = m.step.news; records = m.records }

-- START, which is site 0's: 12 down; 14 not an active site 0
unfoldable pub start_step : Member → Site → Answer
start_step m s =
    pick s.up
    (pick (both (eqb m.own 0) (is_active (state_of s))) (take (start m.n m.willing s)) (refuse 14 s))
    (refuse 12 s)

-- TIMEOUT: 12 down
unfoldable pub timeout_step : Member → Site → Answer
timeout_step m s =
    pick s.up (take (timeout m.own m.n m.weights m.commit m.abort s)) (refuse 12 s)

-- CRASH: 12 down
unfoldable pub crash_step : Member → Site → Answer
crash_step m s = pick s.up (take (crash m.own s)) (refuse 12 s)

-- RECOVER: 13 while up
unfoldable pub recover_step : Member → Site → Answer
recover_step m s = pick s.up (refuse 13 s) (take (recover m.own s))

-- DELIVER of a row: 10 row not known; 11 the member is not among its destinations; 12 down
unfoldable pub deliver_step : Row → Member → Site → Answer
deliver_step row m s =
    pick (row_known m.n row)
    (pick (has_bit row.destinations m.own)
    (pick s.up (take (deliver m.own m.n m.willing row s)) (refuse 12 s))
    (refuse 11 s))
    (refuse 10 s)

-- by command
unfoldable pub step_by : Order → List ℕ → Member → Site → Answer
step_by Order·.Start bytes m s = start_step m s
step_by Order·.Deliver bytes m s = deliver_step (row_in bytes) m s
step_by Order·.Timeout bytes m s = timeout_step m s
step_by Order·.Crash bytes m s = crash_step m s
step_by Order·.Recover bytes m s = recover_step m s

-- what was heard: 6 or 7, or a command; then 8 the member's number is n or more
unfoldable pub step_heard : Heard → List ℕ → Member → Site → Answer
step_heard (Err reason) bytes m s = refuse (number_of reason) s
step_heard (Ok order) bytes m s = pick (ltb m.own m.n) (step_by order bytes m s) (refuse 8 s)

-- what 17 asks: sizes that break neither 3, 21 nor 4 (there are no willing bits, so no 5), and a site as it is asked of one of the n sites; a site
-- from n up is not looked at
unfoldable pub valid_member : Member → Site → Bool
valid_member m s =
    both (eqb (sizes_number m.n m.weights m.commit m.abort 0) 0)
    (pick (ltb m.own m.n) (valid_site m.own m.n s) true)

-- ONE STEP: any member, any site, any bytes
unfoldable pub site_step : Member → Site → List ℕ → Answer
site_step m s bytes = pick (valid_member m s) (step_heard (read_order bytes) bytes m s) (refuse 17 s)

-- what the records have put into the log

unfoldable pub nothing : Logged
nothing = record { prepare = false; group = Group·.None; outcome = Outcome·.None }

unfoldable pub logging : LogRecord → Logged → Logged
logging prepare_record l = record { prepare = true; group = l.group; outcome = l.outcome }
logging (group_record k) l = record { prepare = l.prepare; group = group_of k; outcome = l.outcome }
logging (outcome_record k) l = record { prepare = l.prepare; group = l.group; outcome = outcome_of k }

unfoldable pub logged : List Written → Logged
logged [] = nothing
logged (r ∷ records) = logging r.what (logged records)

-- what a caller is told of a step: number (0: accepted), the next site, the row to send (kind 0: none), its news, and what it has put into the log
pub record Handed : Type 0 where
  pub number : ℕ
  pub site : Site
  pub row : Row
  pub news : ℕ
  pub logged : Logged

unfoldable pub taken_of : Answer → Handed
taken_of a =
    record { number = a.number; site = a.site; row = a.row; news = a.news; logged = logged a.records }

-- what the code's answer tells a caller who gave a site: a refused step gives it back as it came
abbrev pub handed : Site → Result Taken Reason → Handed
handed s (Ok t) = record { number = 0; site = t.site; row = row_sent t.sent; news = t.news; logged = t.logged }
handed s (Err reason) = record { number = number_of reason; site = s; row = no_row; news = 0; logged = nothing }
