-- The number, the place and the news that one command answers with.
use Rattle.std.specs.Prelude.{ℕ, ◌+◌, ◌-◌, ◌≤◌, ◌<◌, Bool, true, false, List, ◌≡◌, ltb, leb, eqb, length, get_or}
use Rattle.std.proofs.Math.Path.{refl}
use native.Mathlib.Omega.{arith}
use borrow.Author.Tests.{ltb-true, leb-true, leb-false, eqb-false}
use Rattle.choice.specs.Choice.{pick}
use Rattle.choice.specs.laws.ChoiceLaws.{pick_ind}
use Rattle.merging.proofs.NewsLaws.{merging-news, risen-others}
use Rattle.row.specs.declared.Row.{Row}
use Rattle.row.specs.Rows.{get_row}
use Rattle.rules.specs.Rules.{Move, start, timeout, bringing, after_hearing, deliver, crash, recover}
use Rattle.refusals.specs.declared.Reason.{Reason}
use Rattle.refusals.specs.declared.Reason.TheVariants as Reason·
use Rattle.refusals.specs.Refusals.{number_of}
use Rattle.refusals.specs.laws.RefusalLaws.{number-test}
use Rattle.command.specs.declared.Command.{Command}
use Rattle.command.specs.declared.Command.TheVariants as Command·
use Rattle.command.specs.Readings.{Reading}
use Rattle.std.specs.Prelude.{Ok, Err}
use Rattle.command.specs.Commands.{found, refused, target, delivery, read_target, read_delivery, read_byte, read_command}
use Rattle.world.specs.declared.World.{World}
use Rattle.world.specs.Sizes.{max_rows, max_news}
use Rattle.world.specs.Worlds.{site_of, is_willing}
use Rattle.play.specs.Calls.{Call, refuse, enter_silent, enter_row, within_news, enter}
use Rattle.play.specs.Commands.{
  start_call,
  timeout_call,
  crash_call,
  recover_call,
  deliver_row,
  deliver_call,
  perform,
  perform_read,
  play_command,
}
use Rattle.safety.proofs.laws.News.{quiet-start, quiet-timeout, quiet-crash, quiet-recover}

-- a place after another, not beyond the list
pub record Next (list : List ℕ) (at next : ℕ) : Type 0 where
  pub after : at < next
  pub within : next ≤ length list

-- news of an event between two places: at most one for each other site, and none but from a delivery, which takes four bytes
pub record Told (w : World) (at next news : ℕ) : Type 0 where
  pub others : news ≤ w.n - 1
  pub four : 1 ≤ news → at + 4 ≤ next

-- the answer to a command: where accepted, a next place and the news between; where refused, its own place; and a number to 15, where the
-- news has room
pub record Placed (w : World) (list : List ℕ) (at : ℕ) (c : Call) : Type 0 where
  pub accepted : c.number ≡ 0 → Next list at c.place
  pub told : c.number ≡ 0 → Told w at c.place c.news
  pub refused : (c.number ≡ 0 → ⊥) → c.place ≡ at
  pub small : w.news + (w.n - 1) ≤ max_news → c.number ≤ 15

placed-pick :
    (w : World) (list : List ℕ) (at : ℕ) (t : Bool) (a b : Call) → Placed w list at a → Placed w list at b →
    Placed w list at (pick t a b)
placed-pick w list at true a b p q = p
placed-pick w list at false a b p q = q

-- how many bytes a command takes
unfoldable bytes_of : Command → ℕ
bytes_of Command·.Start = 1
bytes_of (Command·.Deliver d) = 4
bytes_of (Command·.Timeout t) = 2
bytes_of (Command·.Crash t) = 2
bytes_of (Command·.Recover t) = 2

bytes-some : (c : Command) → 1 ≤ bytes_of c
unfolding bytes_of
bytes-some Command·.Start = omega arith
bytes-some (Command·.Deliver d) = omega arith
bytes-some (Command·.Timeout t) = omega arith
bytes-some (Command·.Crash t) = omega arith
bytes-some (Command·.Recover t) = omega arith

-- a command with its bytes, all of them in the list
record Spans (c : Command) (list : List ℕ) (at next : ℕ) : Type 0 where
  bytes : at + bytes_of c ≤ next
  within : next ≤ length list

spans_next : (c : Command) (list : List ℕ) (at next : ℕ) → Spans c list at next → Next list at next
spans_next c list at next h = record { after = omega (arith, bytes-some c, h.bytes); within = h.within }

-- what is performed of a command with a next place
module _ (w : World) (store list : List ℕ) (at : ℕ) where
  placed-refuse : (k : ℕ) → eqb k 0 ≡ false → leb k 15 ≡ true → Placed w list at (refuse k w store at)
  unfolding refuse
  placed-refuse k e l =
      record {
        accepted = λ z. absurd (eqb-false k 0 e z);
        told = λ z. absurd (eqb-false k 0 e z);
        refused = λ _. refl;
        small = λ _. leb-true k 15 l;
      }

  -- an accepted move, or 17
  placed-within :
      (next : ℕ) (m : Move) (c : Call) → Next list at next → Told w at next m.step.news → c.number ≡ 0 →
      c.place ≡ next → c.news ≡ m.step.news → Placed w list at (within_news w store at m c)
  unfolding within_news refuse
  placed-within next m c h t zero_number place news =
      pick_ind (Placed w list at) (leb (w.news + m.step.news) max_news) c (refuse 17 w store at)
      (λ _. record {
        accepted = λ _. rw place h;
        told = λ _. rw (place, news) t;
        refused = λ z. absurd (z zero_number);
        small = λ _. omega (arith, zero_number);
      })
      (λ past. record {
        accepted = λ z. absurd (omega arith);
        told = λ z. absurd (omega arith);
        refused = λ _. refl;
        small = λ room. absurd (omega (arith, leb-false (w.news + m.step.news) max_news past, t.others));
      })

  placed-enter :
      (next own : ℕ) (m : Move) → Next list at next → Told w at next m.step.news → Placed w list at (enter w store at next own m)
  unfolding enter enter_silent enter_row
  placed-enter next own m h t =
      placed-pick w list at (eqb m.step.row.kind 0) (within_news w store at m (enter_silent w store next own m))
      (pick (ltb w.rows max_rows) (within_news w store at m (enter_row w store next own m)) (refuse 15 w store at))
      (placed-within next m (enter_silent w store next own m) h t refl refl refl)
      (placed-pick w list at (ltb w.rows max_rows) (within_news w store at m (enter_row w store next own m)) (refuse 15 w store at)
      (placed-within next m (enter_row w store next own m) h t refl refl refl) (placed-refuse 15 refl refl))

  -- a rule that merges nothing
  quiet_told : (next news : ℕ) → news ≡ 0 → Told w at next news
  quiet_told next news e = record { others = omega (arith, e); four = λ some. absurd (omega (arith, e, some)) }

  -- a delivery raises no entry of its own site
  deliver-told : (next i : ℕ) (row : Row) → i < w.n → at + 4 ≤ next →
      Told w at next (deliver i w.n (is_willing w i) row (site_of w i)).step.news
  unfolding deliver after_hearing bringing
  deliver-told next i row below four =
      record {
        others =
            omega (
              arith,
              merging-news w.n i row.sender row.codes (site_of w i).codes w.n (omega arith),
              risen-others w.n w.n i row.codes (site_of w i).codes below,
            );
        four = λ _. four;
      }

  placed_row : (next i : ℕ) (row : Row) → Next list at next → i < w.n → at + 4 ≤ next →
      Placed w list at (deliver_row w store at next row i)
  unfolding deliver_row
  placed_row next i row h below four = search (placed-pick, placed-enter, placed-refuse, deliver-told) depth 7

  placed-deliver : (next k i : ℕ) → Next list at next → at + 4 ≤ next → Placed w list at (deliver_call w store at next k i)
  unfolding deliver_call
  placed-deliver next k i h four =
      pick_ind (Placed w list at) (ltb i w.n)
      (pick (ltb k w.rows) (deliver_row w store at next (get_row store k) i) (refuse 9 w store at)) (refuse 8 w store at)
      (λ below. placed-pick w list at (ltb k w.rows) (deliver_row w store at next (get_row store k) i) (refuse 9 w store at)
      (placed_row next i (get_row store k) h (ltb-true i w.n below) four) (placed-refuse 9 refl refl))
      (λ _. placed-refuse 8 refl refl)

  placed-perform : (c : Command) (next : ℕ) → Spans c list at next → Placed w list at (perform c w store at next)
  unfolding perform start_call timeout_call crash_call recover_call bytes_of
  placed-perform Command·.Start next h =
      let n : Next list at next = spans_next Command·.Start list at next h in
      let t : Told w at next (start w.n (is_willing w 0) (site_of w 0)).step.news =
      quiet_told next _ (quiet-start w.n (is_willing w 0) (site_of w 0)) in
      search (placed-pick, placed-enter, placed-refuse, n, t)
  placed-perform (Command·.Deliver d) next h =
      placed-deliver next d.row d.site (spans_next (Command·.Deliver d) list at next h) h.bytes
  placed-perform (Command·.Timeout t) next h =
      let n : Next list at next = spans_next (Command·.Timeout t) list at next h in
      let q : Told w at next (timeout t.site w.n w.weights w.commit w.abort (site_of w t.site)).step.news =
      quiet_told next _ (quiet-timeout t.site w.n w.weights w.commit w.abort (site_of w t.site)) in
      search (placed-pick, placed-enter, placed-refuse, n, q)
  placed-perform (Command·.Crash t) next h =
      let n : Next list at next = spans_next (Command·.Crash t) list at next h in
      let q : Told w at next (crash t.site (site_of w t.site)).step.news =
      quiet_told next _ (quiet-crash t.site (site_of w t.site)) in
      search (placed-pick, placed-enter, placed-refuse, n, q)
  placed-perform (Command·.Recover t) next h =
      let n : Next list at next = spans_next (Command·.Recover t) list at next h in
      let q : Told w at next (recover t.site (site_of w t.site)).step.news =
      quiet_told next _ (quiet-recover t.site (site_of w t.site)) in
      search (placed-pick, placed-enter, placed-refuse, n, q)

-- what is read at a place: a command that takes its bytes, or a refusal to 15 with its own place
module _ (list : List ℕ) (at : ℕ) where
  Read : Reading → Type 0
  Read (Ok p) = Spans p.command list at p.next
  Read (Err r) = (r.place ≡ at) × (eqb (number_of r.reason) 0 ≡ false) × (leb (number_of r.reason) 15 ≡ true)

  read-pick : (t : Bool) (a b : Reading) → Read a → Read b → Read (pick t a b)
  read-pick true a b p q = p
  read-pick false a b p q = q

  read_found : (c : Command) (next : ℕ) → Spans c list at next → Read (found c next)
  unfolding Read found
  read_found c next h = h

  read-refused : (reason : Reason) → leb (number_of reason) 15 ≡ true → Read (refused reason at)
  unfolding Read refused
  read-refused reason l = (refl, number-test reason, l)

  -- a command whose bytes are all there, or 7
  read_whole : (c : Command) (k : ℕ) → bytes_of c ≡ k → Read (pick (leb (at + k) (length list)) (found c (at + k)) (refused Reason·.OperandsCut at))
  read_whole c k e =
      pick_ind Read (leb (at + k) (length list)) (found c (at + k)) (refused Reason·.OperandsCut at)
      (λ l. read_found c (at + k) (record { bytes = omega (arith, e); within = leb-true (at + k) (length list) l }))
      (λ _. read-refused Reason·.OperandsCut refl)

  read-timeout : Read (read_target Command·.Timeout list at)
  unfolding read_target bytes_of
  read-timeout = read_whole (Command·.Timeout (target list at)) 2 refl

  read-crash : Read (read_target Command·.Crash list at)
  unfolding read_target bytes_of
  read-crash = read_whole (Command·.Crash (target list at)) 2 refl

  read-recover : Read (read_target Command·.Recover list at)
  unfolding read_target bytes_of
  read-recover = read_whole (Command·.Recover (target list at)) 2 refl

  read_delivery_lem : Read (read_delivery list at)
  unfolding read_delivery bytes_of
  read_delivery_lem = read_whole (Command·.Deliver (delivery list at)) 4 refl

  read_byte_lem : (byte : ℕ) → Spans Command·.Start list at (at + 1) → Read (read_byte byte list at)
  unfolding read_byte
  read_byte_lem byte h =
      let none : Read (refused Reason·.NoCommand at) = read-refused Reason·.NoCommand refl in
      search (read-pick, read_found, read-timeout, read-crash, read-recover, read_delivery_lem, none) depth 8

  read_command_lem : Read (read_command list at)
  unfolding read_command bytes_of
  read_command_lem =
      pick_ind Read (ltb at (length list)) (read_byte (get_or list at 0) list at) (refused Reason·.NoCommand at)
      (λ l. read_byte_lem (get_or list at 0) (record { bytes = omega arith; within = omega (arith, ltb-true at (length list) l) }))
      (λ _. read-refused Reason·.NoCommand refl)

pub placed : (w : World) (store list : List ℕ) (at : ℕ) → Placed w list at (play_command w store list at)
unfolding play_command perform_read Read
placed w store list at = by-reading (read_command list at) (read_command_lem list at)
  where
    by-reading : (r : Reading) → Read list at r → Placed w list at (perform_read r w store at)
    by-reading (Ok p) h = placed-perform w store list at p.command p.next h
    by-reading (Err r) (e, k, l) = rw e (placed-refuse w store list at (number_of r.reason) k l)
