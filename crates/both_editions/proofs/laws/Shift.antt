-- A command after a header is what it is where the list begins after the header, its places shifted by the header's length.
use Rattle.std.specs.Prelude.{ℕ, ◌+◌, ◌≤◌, Bool, true, false, List, ◌≡◌, ltb, leb, eqb, length, get_or, drop}
use Rattle.std.proofs.Math.Path.{refl, ap}
use Rattle.std.proofs.Common.{sym, ◌∙◌, length-drop, get_or-drop, lt-ltb, le-ltb, le-leb, ltb-true, ltb-false, leb-true, leb-false}
use native.Mathlib.Omega.{arith}
use Rattle.std.proofs.lemmas.Bool.{lt-leb}
use Rattle.choice.specs.Choice.{pick}
use Rattle.choice.specs.laws.Cases.{by_test}
use Rattle.rules.specs.Rules.{Move}
use Rattle.row.specs.declared.Row.{Row}
use Rattle.refusals.specs.declared.Reason.{Reason}
use Rattle.refusals.specs.declared.Reason.TheVariants as Reason·
use Rattle.refusals.specs.Refusals.{number_of}
use Rattle.command.specs.declared.Command.{Command}
use Rattle.command.specs.declared.Command.TheVariants as Command·
use Rattle.command.specs.declared.Target.{Target}
use Rattle.command.specs.Readings.{Reading}
use Rattle.std.specs.Prelude.{Ok, Err}
use Rattle.command.specs.Commands.{found, refused, target, delivery, read_target, read_delivery, read_byte, read_command}
use Rattle.world.specs.declared.World.{World}
use Rattle.world.specs.Sizes.{store_bytes}
use Rattle.world.specs.Valid.{valid_world}
use Rattle.play.specs.Calls.{Call, refuse, enter_silent, enter_row, within_news, enter}
use Rattle.play.specs.Commands.{
  start_call,
  timeout_call,
  crash_call,
  recover_call,
  deliver_row,
  deliver_call,
  perform,
  perform_read,
  play_command,
  one_command,
}

-- what is read, and a call, with their places further on
unfoldable pub reading_on : ℕ → Reading → Reading
reading_on h (Ok p) = found p.command (h + p.next)
reading_on h (Err r) = refused r.reason (h + r.place)

unfoldable pub call_on : ℕ → Call → Call
call_on h c =
    record {
      number = c.number;
      world = c.world;
      store = c.store;
      place = h + c.place;
      records = c.records;
      news = c.news;
    }

-- READING, in a list and in what is left of it
module _ (list : List ℕ) (h : ℕ) (inside : h ≤ length list) where
  byte_on : (at i : ℕ) → get_or list (h + at + i) 0 ≡ get_or (drop h list) (at + i) 0
  byte_on at i =
      let e : h + at + i ≡ h + (at + i) = omega arith in ap (λ k. get_or list k 0) e ∙ sym (get_or-drop h list (at + i) 0)

  -- the tests of places
  below_on : (at : ℕ) → ltb (h + at) (length list) ≡ ltb at (length (drop h list))
  below_on at =
      by_test (ltb at (length (drop h list)))
      (λ on. rw on (lt-ltb (h + at) (length list) (omega (arith, ltb-true at (length (drop h list)) on, length-drop h list))))
      (λ off. rw off (le-ltb (h + at) (length list) (omega (arith, ltb-false at (length (drop h list)) off, length-drop h list))))

  within_on : (at i : ℕ) → leb (h + at + i) (length list) ≡ leb (at + i) (length (drop h list))
  within_on at i =
      by_test (leb (at + i) (length (drop h list)))
      (λ on. rw on (le-leb (h + at + i) (length list) (omega (arith, leb-true (at + i) (length (drop h list)) on, length-drop h list))))
      (λ off. rw off (lt-leb (h + at + i) (length list) (omega (arith, leb-false (at + i) (length (drop h list)) off, length-drop h list))))

  read-pick :
      (t u : Bool) (a b c d : Reading) → t ≡ u → a ≡ reading_on h c → b ≡ reading_on h d → pick t a b ≡ reading_on h (pick u c d)
  read-pick t true a b c d e p q = rw e p
  read-pick t false a b c d e p q = rw e q

  found-on : (command : Command) (at i : ℕ) → found command (h + at + i) ≡ reading_on h (found command (at + i))
  unfolding reading_on found
  found-on command at i = let e : h + at + i ≡ h + (at + i) = omega arith in ap (found command) e

  refused-on : (reason : Reason) (at : ℕ) → refused reason (h + at) ≡ reading_on h (refused reason at)
  unfolding reading_on refused
  refused-on reason at = refl

  target-on : (command : Target → Command) (at : ℕ) → read_target command list (h + at) ≡ reading_on h (read_target command (drop h list) at)
  unfolding read_target target
  target-on command at =
      read-pick _ (leb (at + 2) (length (drop h list))) _ _ (found (command (target (drop h list) at)) (at + 2)) (refused Reason·.OperandsCut at) (within_on at 2)
      (ap (λ b. found (command (record { site = b })) (h + at + 2)) (byte_on at 1) ∙ found-on (command (target (drop h list) at)) at 2)
      (refused-on Reason·.OperandsCut at)

  delivery-on : (at : ℕ) → read_delivery list (h + at) ≡ reading_on h (read_delivery (drop h list) at)
  unfolding read_delivery delivery
  delivery-on at =
      read-pick _ (leb (at + 4) (length (drop h list))) _ _ (found (Command·.Deliver (delivery (drop h list) at)) (at + 4)) (refused Reason·.OperandsCut at) (within_on at 4)
      (rw (byte_on at 1, byte_on at 2, byte_on at 3) (found-on (Command·.Deliver (delivery (drop h list) at)) at 4))
      (refused-on Reason·.OperandsCut at)

  byte_read_on : (b at : ℕ) → read_byte b list (h + at) ≡ reading_on h (read_byte b (drop h list) at)
  unfolding read_byte
  byte_read_on b at =
      read-pick (eqb b 1) (eqb b 1) _ _ (found Command·.Start (at + 1)) _ refl (found-on Command·.Start at 1)
      (read-pick (eqb b 2) (eqb b 2) _ _ (read_delivery (drop h list) at) _ refl (delivery-on at)
      (read-pick (eqb b 3) (eqb b 3) _ _ (read_target Command·.Timeout (drop h list) at) _ refl (target-on Command·.Timeout at)
      (read-pick (eqb b 4) (eqb b 4) _ _ (read_target Command·.Crash (drop h list) at) _ refl (target-on Command·.Crash at)
      (read-pick (eqb b 5) (eqb b 5) _ _ (read_target Command·.Recover (drop h list) at) (refused Reason·.NoCommand at) refl (target-on Command·.Recover at) (refused-on Reason·.NoCommand at)))))

  pub command-on : (at : ℕ) → read_command list (h + at) ≡ reading_on h (read_command (drop h list) at)
  unfolding read_command
  command-on at =
      read-pick _ (ltb at (length (drop h list))) _ _ (read_byte (get_or (drop h list) at 0) (drop h list) at) (refused Reason·.NoCommand at) (below_on at)
      (ap (λ b. read_byte b list (h + at)) (sym (get_or-drop h list at 0)) ∙ byte_read_on (get_or (drop h list) at 0) at)
      (refused-on Reason·.NoCommand at)

-- PERFORMING, with places further on
module _ (h : ℕ) (w : World) (store : List ℕ) where
  call-pick : (t : Bool) (a b c d : Call) → a ≡ call_on h c → b ≡ call_on h d → pick t a b ≡ call_on h (pick t c d)
  call-pick true a b c d p q = p
  call-pick false a b c d p q = q

  refuse-on : (number at : ℕ) → refuse number w store (h + at) ≡ call_on h (refuse number w store at)
  unfolding refuse call_on
  refuse-on number at = refl

  silent-on : (next own : ℕ) (m : Move) → enter_silent w store (h + next) own m ≡ call_on h (enter_silent w store next own m)
  unfolding enter_silent call_on
  silent-on next own m = refl

  sent-on : (next own : ℕ) (m : Move) → enter_row w store (h + next) own m ≡ call_on h (enter_row w store next own m)
  unfolding enter_row call_on
  sent-on next own m = refl

  enter-on : (at next own : ℕ) (m : Move) → enter w store (h + at) (h + next) own m ≡ call_on h (enter w store at next own m)
  unfolding enter within_news
  enter-on at next own m = search (call-pick, refuse-on, silent-on, sent-on) depth 8

  row_on : (at next i : ℕ) (row : Row) → deliver_row w store (h + at) (h + next) row i ≡ call_on h (deliver_row w store at next row i)
  unfolding deliver_row
  row_on at next i row = search (call-pick, enter-on, refuse-on) depth 8

  perform-on : (c : Command) (at next : ℕ) → perform c w store (h + at) (h + next) ≡ call_on h (perform c w store at next)
  unfolding perform start_call timeout_call crash_call recover_call deliver_call
  perform-on Command·.Start at next = search (call-pick, enter-on, refuse-on) depth 8
  perform-on (Command·.Deliver d) at next = search (call-pick, row_on, refuse-on) depth 8
  perform-on (Command·.Timeout t) at next = search (call-pick, enter-on, refuse-on) depth 8
  perform-on (Command·.Crash t) at next = search (call-pick, enter-on, refuse-on) depth 8
  perform-on (Command·.Recover t) at next = search (call-pick, enter-on, refuse-on) depth 8

  read_on_lem : (r : Reading) (at : ℕ) → perform_read (reading_on h r) w store (h + at) ≡ call_on h (perform_read r w store at)
  unfolding perform_read reading_on found refused
  read_on_lem (Ok p) at = perform-on p.command at p.next
  read_on_lem (Err r) at = refuse-on (number_of r.reason) r.place

  -- ONE COMMAND after a header
  pub one_on : (list : List ℕ) (at : ℕ) → h ≤ length list → one_command w store list (h + at) ≡ call_on h (one_command w store (drop h list) at)
  unfolding one_command play_command
  one_on list at inside =
      call-pick (ltb (length store) store_bytes) _ _ _ _ (refuse-on 16 at)
      (call-pick (valid_world w) _ _ _ _ (ap (λ r. perform_read r w store (h + at)) (command-on list h inside at) ∙ read_on_lem (read_command (drop h list) at) at) (refuse-on 17 at))
