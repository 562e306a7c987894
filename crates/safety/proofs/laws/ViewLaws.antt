-- Every call is seen as the view says.
use Rattle.std.specs.Prelude.{ℕ, ◌+◌, ◌≤◌, ◌<◌, true, List, ◌≡◌, ltb, leb, eqb, length, get_or}
use Rattle.std.proofs.Common.{arith}
use borrow.Author.Tests.{ltb-true, ltb-false, leb-true, eqb-true, eqb-false}
use Rattle.choice.specs.Choice.{pick}
use Rattle.choice.specs.laws.ChoiceLaws.{pick_ind}
use Rattle.bits.specs.Bits.{has_bit}
use Rattle.row.specs.Rows.{get_row, row_known}
use Rattle.site.specs.State.{state_of, is_active}
use Rattle.rules.specs.Rules.{Move, start, timeout, deliver, crash, recover}
use Rattle.command.specs.declared.Command.{Command}
use Rattle.command.specs.declared.Command.TheVariants as Command·
use Rattle.command.specs.declared.Target.{Target}
use Rattle.std.specs.Prelude.{Ok, Err}
use Rattle.refusals.specs.Refusals.{number_of}
use Rattle.refusals.specs.laws.RefusalLaws.{number-some}
use Rattle.command.specs.Readings.{Reading}
use Rattle.command.specs.Commands.{found, refused, target, delivery, read_target, read_delivery, read_byte, read_command}
use Rattle.world.specs.declared.World.{World}
use Rattle.world.specs.Sizes.{max_rows, max_news, store_bytes}
use Rattle.world.specs.Worlds.{site_of, is_willing}
use Rattle.world.specs.Valid.{valid_world}
use Rattle.play.specs.Calls.{Call, refuse, enter_silent, enter_row, within_news, enter}
use Rattle.play.specs.Commands.{
  start_call,
  timeout_call,
  crash_call,
  recover_call,
  deliver_row,
  deliver_call,
  perform,
  perform_read,
  play_command,
  one_command,
}
use Rattle.safety.proofs.laws.View.{Turn, by-start, by-timeout, by-deliver, by-crash, by-recover}
use Rattle.safety.proofs.laws.View.{Granted, Seen, as_refused, as_silent, as_row}
use Rattle.world.specs.laws.WorldLaws.{valid-sized}

-- a call past 16 and 17
module _ (w : World) (store : List ℕ) (valid : valid_world w ≡ true) (room : store_bytes ≤ length store) (at : ℕ) where
  -- a move that a rule allows, if its news fits
  seen-within :
      (own : ℕ) (m : Move) (r : Call) → own < w.n → Turn w store own m → (Granted w store own m → Seen w store r) →
      Seen w store (within_news w store at m r)
  unfolding within_news
  seen-within own m r below turn taken =
      pick_ind (Seen w store) (leb (w.news + m.step.news) max_news) r (refuse 17 w store at)
      (λ few. taken (record { valid = valid; room = room; below = below; turn = turn; news = leb-true _ max_news few }))
      (λ _. as_refused 17 at (omega arith))

  seen-enter : (next own : ℕ) (m : Move) → own < w.n → Turn w store own m → Seen w store (enter w store at next own m)
  unfolding enter
  seen-enter next own m below turn =
      pick_ind (Seen w store) (eqb m.step.row.kind 0) (within_news w store at m (enter_silent w store next own m))
      (pick (ltb w.rows max_rows) (within_news w store at m (enter_row w store next own m)) (refuse 15 w store at))
      (λ e. seen-within own m (enter_silent w store next own m) below turn
      (λ g. as_silent next own m g (eqb-true m.step.row.kind 0 e)))
      (λ e. pick_ind (Seen w store) (ltb w.rows max_rows) (within_news w store at m (enter_row w store next own m))
      (refuse 15 w store at)
      (λ l. seen-within own m (enter_row w store next own m) below turn
      (λ g. as_row next own m g (eqb-false m.step.row.kind 0 e) (ltb-true w.rows max_rows l)))
      (λ _. as_refused 15 at (omega arith)))

  seen_start : (next : ℕ) → Seen w store (start_call w store at next)
  unfolding start_call
  seen_start next =
      pick_ind (Seen w store) (site_of w 0).up
      (pick (is_active (state_of (site_of w 0))) (enter w store at next 0 (start w.n (is_willing w 0) (site_of w 0)))
      (refuse 14 w store at)) (refuse 12 w store at)
      (λ up. pick_ind (Seen w store) (is_active (state_of (site_of w 0)))
      (enter w store at next 0 (start w.n (is_willing w 0) (site_of w 0))) (refuse 14 w store at)
      (λ active. seen-enter next 0 (start w.n (is_willing w 0) (site_of w 0)) (omega (arith, valid-sized w valid))
      (by-start up active))
      (λ _. as_refused 14 at (omega arith)))
      (λ _. as_refused 12 at (omega arith))

  seen-timeout : (next i : ℕ) → Seen w store (timeout_call w store at next i)
  unfolding timeout_call
  seen-timeout next i =
      pick_ind (Seen w store) (ltb i w.n)
      (pick (site_of w i).up (enter w store at next i (timeout i w.n w.weights w.commit w.abort (site_of w i)))
      (refuse 12 w store at)) (refuse 8 w store at)
      (λ below. pick_ind (Seen w store) (site_of w i).up
      (enter w store at next i (timeout i w.n w.weights w.commit w.abort (site_of w i))) (refuse 12 w store at)
      (λ up. seen-enter next i (timeout i w.n w.weights w.commit w.abort (site_of w i)) (ltb-true i w.n below) (by-timeout i up))
      (λ _. as_refused 12 at (omega arith)))
      (λ _. as_refused 8 at (omega arith))

  seen-crash : (next i : ℕ) → Seen w store (crash_call w store at next i)
  unfolding crash_call
  seen-crash next i =
      pick_ind (Seen w store) (ltb i w.n)
      (pick (site_of w i).up (enter w store at next i (crash i (site_of w i))) (refuse 12 w store at)) (refuse 8 w store at)
      (λ below. pick_ind (Seen w store) (site_of w i).up (enter w store at next i (crash i (site_of w i))) (refuse 12 w store at)
      (λ up. seen-enter next i (crash i (site_of w i)) (ltb-true i w.n below) (by-crash i up))
      (λ _. as_refused 12 at (omega arith)))
      (λ _. as_refused 8 at (omega arith))

  seen-recover : (next i : ℕ) → Seen w store (recover_call w store at next i)
  unfolding recover_call
  seen-recover next i =
      pick_ind (Seen w store) (ltb i w.n)
      (pick (site_of w i).up (refuse 13 w store at) (enter w store at next i (recover i (site_of w i)))) (refuse 8 w store at)
      (λ below. pick_ind (Seen w store) (site_of w i).up (refuse 13 w store at) (enter w store at next i (recover i (site_of w i)))
      (λ _. as_refused 13 at (omega arith))
      (λ down. seen-enter next i (recover i (site_of w i)) (ltb-true i w.n below) (by-recover i down)))
      (λ _. as_refused 8 at (omega arith))

  seen-row : (next k i : ℕ) → i < w.n → k < w.rows → Seen w store (deliver_row w store at next (get_row store k) i)
  unfolding deliver_row
  seen-row next k i below there =
      let m : Move = deliver i w.n (is_willing w i) (get_row store k) (site_of w i) in
      pick_ind (Seen w store) (row_known w.n (get_row store k))
      (pick (has_bit (get_row store k).destinations i)
      (pick (site_of w i).up (enter w store at next i m) (refuse 12 w store at)) (refuse 11 w store at)) (refuse 10 w store at)
      (λ known. pick_ind (Seen w store) (has_bit (get_row store k).destinations i)
      (pick (site_of w i).up (enter w store at next i m) (refuse 12 w store at)) (refuse 11 w store at)
      (λ goes. pick_ind (Seen w store) (site_of w i).up (enter w store at next i m) (refuse 12 w store at)
      (λ up. seen-enter next i m below (by-deliver i k up there known goes))
      (λ _. as_refused 12 at (omega arith)))
      (λ _. as_refused 11 at (omega arith)))
      (λ _. as_refused 10 at (omega arith))

  seen-deliver : (next k i : ℕ) → Seen w store (deliver_call w store at next k i)
  unfolding deliver_call
  seen-deliver next k i =
      pick_ind (Seen w store) (ltb i w.n)
      (pick (ltb k w.rows) (deliver_row w store at next (get_row store k) i) (refuse 9 w store at)) (refuse 8 w store at)
      (λ below. pick_ind (Seen w store) (ltb k w.rows) (deliver_row w store at next (get_row store k) i) (refuse 9 w store at)
      (λ there. seen-row next k i (ltb-true i w.n below) (ltb-true k w.rows there))
      (λ _. as_refused 9 at (omega arith)))
      (λ _. as_refused 8 at (omega arith))

  seen-perform : (c : Command) (next : ℕ) → Seen w store (perform c w store at next)
  unfolding perform
  seen-perform Command·.Start next = seen_start next
  seen-perform (Command·.Deliver d) next = seen-deliver next d.row d.site
  seen-perform (Command·.Timeout t) next = seen-timeout next t.site
  seen-perform (Command·.Crash t) next = seen-crash next t.site
  seen-perform (Command·.Recover t) next = seen-recover next t.site

  -- whatever was read
  seen_read : (reading : Reading) → Seen w store (perform_read reading w store at)
  unfolding perform_read
  seen_read (Ok p) = seen-perform p.command p.next
  seen_read (Err r) = as_refused (number_of r.reason) r.place (number-some r.reason)

  seen_play : (list : List ℕ) → Seen w store (play_command w store list at)
  unfolding play_command
  seen_play list = seen_read (read_command list at)

pub view : (w : World) (store list : List ℕ) (at : ℕ) → Seen w store (one_command w store list at)
unfolding one_command
view w store list at =
    pick_ind (Seen w store) (ltb (length store) store_bytes) (refuse 16 w store at)
    (pick (valid_world w) (play_command w store list at) (refuse 17 w store at))
    (λ _. as_refused 16 at (omega arith))
    (λ room. pick_ind (Seen w store) (valid_world w) (play_command w store list at) (refuse 17 w store at)
    (λ valid. seen_play w store valid (ltb-false (length store) store_bytes room) at list)
    (λ _. as_refused 17 at (omega arith)))
