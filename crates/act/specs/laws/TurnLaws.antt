-- A command on a world is its site's turn: refused, or its move entered.
use Rattle.std.specs.Prelude.{ℕ, List, Result, Ok, Err, ◌≡◌, ◌<◌, refl, ltb, eqb}
use Rattle.std.proofs.Common.{sym, subst}
use borrow.Author.Tests.{lt-ltb}
use Rattle.choice.specs.Choice.{pick, both}
use Rattle.choice.specs.laws.Cases.{by_test}
use Rattle.refusals.specs.declared.Reason.{Reason}
use Rattle.refusals.specs.Refusals.{number_of}
use Rattle.bits.specs.Bits.{has_bit}
use Rattle.row.specs.declared.Row.{Row}
use Rattle.row.specs.Rows.{get_row, row_known}
use Rattle.site.specs.declared.Site.{Site}
use Rattle.site.specs.State.{state_of, is_active}
use Rattle.site.specs.Records.{Written}
use Rattle.rules.specs.Rules.{Stepped, Move}
use Rattle.participant.specs.Turns.{start_turn, deliver_turn, timeout_turn, crash_turn, recover_turn, moved}
use Rattle.command.specs.declared.Command.{Command}
use Rattle.command.specs.declared.Command.TheVariants as Command·
use Rattle.world.specs.declared.World.{World}
use Rattle.world.specs.Worlds.{site_of, is_willing}
use Rattle.play.specs.declared.Head.{Head}
use Rattle.play.specs.Calls.{Call, played_of, refuse, enter}
use Rattle.play.specs.Commands.{start_call, timeout_call, crash_call, recover_call, deliver_row, deliver_call, perform}
use Rattle.play.specs.laws.Changes.{Acts, SiteChange, head_of, world_of, changed, refused_change, named_site}
use Rattle.play.proofs.laws.CallLaws.{refused_acts}
use Rattle.act.specs.Turns.{delivery_turn, turn_of}

-- a turn entered into world and store
entering : World → List ℕ → ℕ → ℕ → ℕ → Result Move Reason → Call
entering w store at next own (Ok m) = enter w store at next own m
entering w store at next own (Err reason) = refuse (number_of reason) w store at

module _ (w : World) (store : List ℕ) (at next : ℕ) where
  start_entered :
      start_call w store at next ≡ entering w store at next 0 (start_turn 0 w.n (is_willing w 0) (site_of w 0))
  unfolding start_call start_turn entering
  start_entered =
      by_test (site_of w 0).up
      (λ u. by_test (is_active (state_of (site_of w 0))) (λ a. rw (a, u)) (λ a. rw (a, u)))
      (λ u. rw u)

  deliver_entered :
      (row : Row) (i : ℕ) →
      deliver_row w store at next row i ≡ entering w store at next i (deliver_turn i w.n (is_willing w i) row (site_of w i))
  unfolding deliver_row deliver_turn entering
  deliver_entered row i =
      by_test (row_known w.n row)
      (λ k. by_test (has_bit row.destinations i)
      (λ b. by_test (site_of w i).up (λ u. rw (k, b, u)) (λ u. rw (k, b, u)))
      (λ b. rw (k, b)))
      (λ k. rw k)

  turn_entered :
      (command : Command) → named_site command < w.n →
      perform command w store at next
      ≡ entering w store at next (named_site command) (turn_of command (head_of w) store (site_of w (named_site command)))
  unfolding perform named_site turn_of delivery_turn head_of is_willing deliver_call timeout_call crash_call recover_call timeout_turn crash_turn recover_turn entering
  turn_entered Command·.Start below = start_entered
  turn_entered (Command·.Deliver d) below =
      by_test (ltb d.row w.rows)
      (λ r. rw (lt-ltb _ _ below, r) (deliver_entered (get_row store d.row) d.site))
      (λ r. rw (lt-ltb _ _ below, r))
  turn_entered (Command·.Timeout t) below =
      by_test (site_of w t.site).up (λ u. rw (lt-ltb _ _ below, u)) (λ u. rw (lt-ltb _ _ below, u))
  turn_entered (Command·.Crash t) below =
      by_test (site_of w t.site).up (λ u. rw (lt-ltb _ _ below, u)) (λ u. rw (lt-ltb _ _ below, u))
  turn_entered (Command·.Recover t) below =
      by_test (site_of w t.site).up (λ u. rw (lt-ltb _ _ below, u)) (λ u. rw (lt-ltb _ _ below, u))

moved-err : (x : Result Move Reason) (reason : Reason) → moved x ≡ Err reason → x ≡ Err reason
moved-err (Ok m) reason e = cc
moved-err (Err r) reason e = cc

moved-ok : (x : Result Move Reason) (step : Stepped) → moved x ≡ Ok step → (m : Move) × (x ≡ Ok m) × (m.step ≡ step)
moved-ok (Ok m) step e = (m, refl, cc)
moved-ok (Err r) step e = cc

move-ind :
    (P : Move → Type 0) (m : Move) (step : Stepped) → m.step ≡ step →
    ((records : List Written) → P (record { step = step; records = records })) → P m
move-ind P m step e f = subst (λ x. P (record { step = x; records = m.records })) (sym e) (f m.records)

module _ (command : Command) (h : Head) (s : Site) (store : List ℕ) (at next : ℕ) (below : named_site command < h.sizes.n) where
  turn-same :
      (sites : List Site) → site_of (world_of sites h) (named_site command) ≡ s →
      perform command (world_of sites h) store at next
      ≡ entering (world_of sites h) store at next (named_site command) (turn_of command h store s)
  unfolding head_of world_of
  turn-same sites e = rw (← e) (turn_entered (world_of sites h) store at next command below)

  -- a turn that is refused
  pub turn_refused :
      (reason : Reason) → moved (turn_of command h store s) ≡ Err reason →
      Acts h (named_site command) s (refused_change (number_of reason) h at s) store (λ w. perform command w store at next)
  unfolding Acts entering
  turn_refused reason e sites f =
      let t = turn-same sites f in
      rw (t, moved-err _ reason e) (refused_acts (number_of reason) h (named_site command) s store at sites f)

  -- a turn that is taken: its step entered, whatever records it wrote
  pub turn_taken :
      (step : Stepped) (c : SiteChange) (after : List ℕ) → moved (turn_of command h store s) ≡ Ok step →
      ((records : List Written) → Acts h (named_site command) s c after
      (λ w. enter w store at next (named_site command) (record { step = step; records = records }))) →
      Acts h (named_site command) s c after (λ w. perform command w store at next)
  unfolding Acts entering
  turn_taken step c after e entered sites f =
      let t = turn-same sites f in
      let k = moved-ok _ step e in
      rw (t, k.1)
      (move-ind
      (λ m. (changed (world_of sites h) (named_site command) c ≡ played_of (enter (world_of sites h) store at next (named_site command) m))
      × (after ≡ (enter (world_of sites h) store at next (named_site command) m).store))
      k.0 step k.2 (λ records. entered records sites f))
