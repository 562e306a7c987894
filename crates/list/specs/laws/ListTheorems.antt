-- The theorems of lists.
use Rattle.std.specs.Prelude.{ℕ, zero, suc, ◌+◌, ◌-◌, ◌≤◌, true, false, List, [], ◌∷◌, ◌≡◌, ltb, leb, eqb, length}
use Rattle.std.proofs.Math.Path.{refl}
use Rattle.std.proofs.Common.{ap, arith, ltb-false, le-leb, leb-true, eqb-true, ne_eqb}
use Rattle.std.proofs.lemmas.Bool.{eqb-false}
use Rattle.choice.specs.Choice.{pick}
use Rattle.choice.specs.laws.ChoiceLaws.{pick_ind}
use Rattle.choice.specs.laws.Cases.{by_test, by_equal}
use Rattle.world.specs.declared.World.{World}
use Rattle.world.specs.Sizes.{max_news, list_bytes, store_bytes}
use Rattle.world.specs.Worlds.{zero_world}
use Rattle.world.specs.Valid.{valid_world}
use Rattle.world.specs.laws.WorldLaws.{valid-sized}
use Rattle.header.specs.Headers.{header_of, header_weights, header_length, header_number, header_world}
use Rattle.header.specs.laws.HeaderLaws.{headed, header_stop, header_stop_lem}
use Rattle.play.specs.Calls.{Call}
use Rattle.play.specs.Commands.{one_command}
use Rattle.play.specs.Run.{Ask, run, call_of, after_call}
use Rattle.play.proofs.laws.CallLaws.{one-is_play}
use Rattle.safety.specs.Claims.{Shaped}
use Rattle.safety.proofs.laws.Unchanging.{refused_changes_nothing}
use Rattle.safety.proofs.laws.Demand3.{demand3}
use Rattle.safety.proofs.laws.News.{run_adds}
use Rattle.list.specs.Play.{Play, stopped, after_ask, ask_at, play_from, refused_list, play_list}
use Rattle.list.specs.Claims.{OfList, IsRun, ListIsRun, ListSafe, ListNewsIsSum, ListNewsIsLow, is_stop, Ends, ListEnds}
use Rattle.list.specs.laws.CommandLaws.{number-below}
use Rattle.list.specs.laws.PlayLaws.{play_ind, Further, further-one}
use Rattle.list.specs.laws.ListNews.{header-none, Heard, heard-first, heard-low, heard-on}
use Rattle.list.specs.laws.HeaderLaws.{header-valid, header-shaped, whole_from}

-- demand 3: a list's records are those of a run
pub list_safe : ListSafe
unfolding header_world
list_safe store list =
    demand3 (header_of list).n (header_weights list) (header_of list).commit (header_of list).abort (header_of list).willing store
    (play_list store list).asks

-- a play from a place on, with the events counted before it
record RunOf (w : World) (store list : List ℕ) (events : ℕ) (p : Play) : Type 0 where
  of_list : OfList list p.asks
  one_each : events + length p.asks ≡ p.played.events + pick (eqb p.played.number 0) 0 1
  same-world : (run w store p.asks).world ≡ p.played.world
  same_store : (run w store p.asks).store ≡ p.store

module _ (w : World) (store list : List ℕ) (at events : ℕ) where
  run_ends : RunOf w store list events (stopped 0 w store at events [])
  unfolding stopped OfList run
  run_ends = record { of_list = record {}; one_each = refl; same-world = refl; same_store = refl }

  run-stops :
      ((one_command w store list at).number ≡ 0 → ⊥) →
      RunOf w store list events (stopped (one_command w store list at).number w store at events (ask_at list at ∷ []))
  unfolding stopped OfList run ask_at after_call call_of
  run-stops e =
      record {
        of_list = (refl, record {});
        one_each = rw (ne_eqb (one_command w store list at).number 0 e);
        same-world = (refused_changes_nothing w store list at e).world_same;
        same_store = (refused_changes_nothing w store list at e).store_same;
      }

  run-goes_on :
      (p : Play) → RunOf (one_command w store list at).world (one_command w store list at).store list (events + 1) p →
      RunOf w store list events (after_ask (ask_at list at) p)
  unfolding after_ask OfList run ask_at after_call call_of
  run-goes_on p r =
      record {
        of_list = (refl, r.of_list);
        one_each = omega (arith, r.one_each);
        same-world = r.same-world;
        same_store = r.same_store;
      }

from-is-run :
    (fuel : ℕ) (w : World) (store list : List ℕ) (at events : ℕ) →
    RunOf w store list events (play_from fuel w store list at events)
unfolding play_from
from-is-run zero w store list at events = run_ends w store list at events
from-is-run (suc fuel) w store list at events =
    let c : Call = one_command w store list at in
    play_ind (RunOf w store list events) fuel w store list at events (λ _. run_ends w store list at events)
    (λ _ e. run-stops w store list at events e)
    (λ _ _. run-goes_on w store list at events (play_from fuel c.world c.store list c.place (events + 1))
    (from-is-run fuel c.world c.store list c.place (events + 1)))

-- a list is a run of one-command calls
pub list-is-run : ListIsRun
list-is-run store list room e =
    let r : RunOf (header_world list) store list 0 (play_list store list) =
    rw (whole_from store list e room) (from-is-run (length list) (header_world list) store list (header_length list) 0) in
    record { of_list = r.of_list; one_each = omega (arith, r.one_each); same-world = r.same-world; same_store = r.same_store }

-- a claim of a whole play, shown where a store that is too short or a header is refused, and of a run

pub short-refused : (store list : List ℕ) → ltb (length store) store_bytes ≡ true → play_list store list ≡ refused_list 16 store
unfolding play_list
short-refused store list e = rw e

header_refused :
    (store list : List ℕ) → ltb (length store) store_bytes ≡ false → (header_number list ≡ 0 → ⊥) →
    play_list store list ≡ refused_list (header_number list) store
unfolding play_list
header_refused store list e f = rw (e, ne_eqb (header_number list) 0 f)

pub by-run :
    (P : Play → Type 0) (store list : List ℕ) → ((number : ℕ) → P (refused_list number store)) →
    (IsRun (header_world list) store list (play_list store list) → P (play_list store list)) → P (play_list store list)
by-run P store list refused ran =
    by_test (ltb (length store) store_bytes) (λ short. rw (short-refused store list short) (refused 16))
    (λ room. by_equal (header_number list) 0
    (λ e. ran (list-is-run store list (ltb-false (length store) store_bytes room) e))
    (λ e. rw (header_refused store list room e) (refused (header_number list))))

-- the news of a list's world is the sum of its calls' news
pub list-news-is_sum : ListNewsIsSum
unfolding refused_list stopped zero_world run
list-news-is_sum store list =
    by-run (λ p. p.played.world.news ≡ (run (header_world list) store p.asks).news) store list (λ number. refl)
    (λ r. omega (arith, ap (λ w. w.news) r.same-world, run_adds (header_world list) store (play_list store list).asks, header-none list))

-- a play that has ended, and whose news is low
record Ended (list : List ℕ) (p : Play) : Type 0 where
  ends : Ends list p
  low : p.played.world.news ≤ 122850

-- numbers up to 16, and those of a header
stop-low : (number : ℕ) → number ≤ 16 → is_stop number ≡ true
unfolding is_stop
stop-low number low = rw (le-leb number 16 low)

stop-header : (number : ℕ) → header_stop number ≡ true → is_stop number ≡ true
unfolding is_stop header_stop
stop-header number e =
    by_test (leb number 5) (λ few. rw (le-leb number 16 (omega (arith, leb-true number 5 few))))
    (λ many. by_test (leb number 16) (λ low. rw low) (λ high. rw high (rw many at e)))

-- a stop within the list, at a number of the table; at 0 only where the list ends
ended-stopped :
    (number : ℕ) (w : World) (store list : List ℕ) (at events : ℕ) (asks : List Ask) → is_stop number ≡ true → at ≤ length list →
    (number ≡ 0 → at ≡ length list) → w.news ≤ 122850 → Ended list (stopped number w store at events asks)
unfolding stopped
ended-stopped number w store list at events asks k h z few =
    record { ends = record { in_table = k; to_the_end = z; within = h }; low = few }

ended-after : (list : List ℕ) (ask : Ask) (p : Play) → Ended list p → Ended list (after_ask ask p)
unfolding after_ask
ended-after list ask p q =
    record {
      ends = record { in_table = q.ends.in_table; to_the_end = q.ends.to_the_end; within = q.ends.within };
      low = q.low;
    }

from-ended :
    (fuel : ℕ) (w : World) (store list : List ℕ) (at events : ℕ) → at ≤ length list → length list ≤ at + fuel →
    store_bytes ≤ length store → valid_world w ≡ true → Shaped w → length list ≤ list_bytes → Heard w at →
    Ended list (play_from fuel w store list at events)
unfolding play_from
from-ended zero w store list at events h fuelled room valid shaped most heard =
    ended-stopped 0 w store list at events [] (stop-low 0 (omega arith)) h (λ _. omega arith) (heard-low w at heard (omega arith))
from-ended (suc fuel) w store list at events h fuelled room valid shaped most heard =
    let c : Call = one_command w store list at in
    let low : w.news ≤ 122850 = heard-low w at heard (omega arith) in
    let news-room : w.news + (w.n - 1) ≤ max_news = omega (arith, low, (valid-sized w valid).high) in
    play_ind (Ended list) fuel w store list at events
    (λ l. ended-stopped 0 w store list at events [] (stop-low 0 (omega arith)) h (λ _. omega arith) low)
    (λ _ e. ended-stopped c.number w store list at events (ask_at list at ∷ [])
    (stop-low c.number (rw (one-is_play w store list at room valid) (omega (arith, number-below w store list at news-room)))) h (λ z. absurd (e z)) low)
    (λ _ e. let k : Further list at c = further-one w store list at room valid shaped e in
    ended-after list (ask_at list at) (play_from fuel c.world c.store list c.place (events + 1))
    (from-ended fuel c.world c.store list c.place (events + 1) k.within (omega arith) k.room k.valid k.shaped
    most (heard-on w store list at room valid shaped e heard)))

list-ended : (store list : List ℕ) → Ended list (play_list store list)
unfolding play_list refused_list zero_world
list-ended store list =
    pick_ind (Ended list) (ltb (length store) store_bytes) (refused_list 16 store)
    (pick (eqb (header_number list) 0) (play_from (length list) (header_world list) store list (header_length list) 0)
    (refused_list (header_number list) store))
    (λ _. ended-stopped 16 zero_world store list 0 0 [] (stop-low 16 (omega arith)) (omega arith) (λ z. absurd (omega arith)) (omega arith))
    (λ room. pick_ind (Ended list) (eqb (header_number list) 0) (play_from (length list) (header_world list) store list (header_length list) 0)
    (refused_list (header_number list) store)
    (λ e. let head : header_number list ≡ 0 = eqb-true (header_number list) 0 e in
    from-ended (length list) (header_world list) store list (header_length list) 0 (headed list head).whole (omega arith)
    (ltb-false (length store) store_bytes room) (header-valid list head) (header-shaped list)
    (headed list head).small (heard-first list))
    (λ e. ended-stopped (header_number list) zero_world store list 0 0 [] (stop-header (header_number list) (header_stop_lem list)) (omega arith)
    (λ z. absurd (eqb-false (header_number list) 0 e z)) (omega arith)))

-- every list is played to its end or stopped, and never at 17
pub list-ends : ListEnds
list-ends store list = (list-ended store list).ends

-- its news is too low for that
pub list-news-is-low : ListNewsIsLow
list-news-is-low store list = (list-ended store list).low
