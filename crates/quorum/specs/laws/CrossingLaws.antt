-- The theorems of worlds that cross to C.
use Rattle.std.specs.Prelude.{ℕ, zero, suc, ◌+◌, ◌≤◌, ◌<◌, true, List, [], ◌∷◌, ◌≡◌, refl, ltb, eqb, length, get_or, replicate}
use Rattle.std.proofs.Common.{ap, ◌∙◌, arith, ltb-true, ltb-false, eqb-true, ne_eqb}
use Rattle.std.proofs.lemmas.List.{get_or-replicate}
use Rattle.choice.specs.Choice.{pick}
use Rattle.choice.specs.laws.ChoiceLaws.{pick_ind}
use Rattle.choice.specs.laws.Cases.{by_test, by_equal}
use Rattle.choice.specs.laws.Stores.{stored_length}
use Rattle.weights.specs.Weights.{weight_of, weights_by, even_weights}
use Rattle.weights.specs.laws.WeightLaws.{Weighed, weighed, rest-most}
use Rattle.bits.specs.laws.BitLaws.{bits_below}
use Rattle.world.specs.declared.World.{World}
use Rattle.world.specs.Sizes.{store_bytes, sites_fit, sizes_number}
use Rattle.world.specs.laws.SizesLaws.{Sized}
use Rattle.world.specs.Worlds.{zero_world, fresh_world}
use Rattle.world.specs.Valid.{valid_world}
use Rattle.world.specs.laws.WorldLaws.{valid_parts, valid-sized}
use Rattle.header.specs.Headers.{is_second, header_of, header_weights, header_length, header_number, header_world}
use Rattle.header.specs.laws.HeaderLaws.{headed}
use Rattle.play.specs.Calls.{Call, refuse}
use Rattle.play.specs.Commands.{one_command}
use Rattle.play.specs.Run.{Ask}
use Rattle.safety.specs.Claims.{Shaped}
use Rattle.safety.proofs.laws.Shape.{shaped_fresh, shaped-kept}
use Rattle.safety.proofs.laws.Unchanging.{accepted_keeps_the_rest}
use Rattle.list.specs.Play.{Play, stopped, after_ask, ask_at, play_from, refused_list, play_list}
use Rattle.list.specs.laws.PlayLaws.{play_ind, Further, further-one}
use Rattle.list.specs.laws.HeaderLaws.{header-valid, header-shaped}
use Rattle.list.specs.laws.CommandLaws.{next-valid}
use Rattle.layout.specs.Layout.{world_bytes, put_world, world_at, in_layout}
use Rattle.layout.specs.Claims.{Fits}
use Rattle.layout.proofs.laws.LayoutLaws.{world-read-back, written-inside, inside-exact, read-sites, read-codes, read-joined, read_weights_lem}
use Rattle.calls.specs.Calls.{result_bytes, leave, leave_play}
use Rattle.calls.specs.laws.CallLaws.{list_plays, command_16, command-17-result, command-17-world, command-refused, command-accepted}
use Rattle.quorum.specs.Claims.{Holds, ListCrosses, CommandCrosses, Small, ResultFits}

-- each of the sixteen weights that 21 lets pass is a byte
weight-fits : (n : ℕ) (weights : List ℕ) → Weighed n weights → (j : ℕ) → j < 16 → get_or weights j 0 < 256
unfolding weight_of
weight-fits n weights w j h =
    by_test (ltb j n) (λ below. omega (arith, w.few j (ltb-true j n below) h)) (λ past. omega (arith, w.none j (ltb-false j n past) h))

-- what 17 does not ask: sixteen sites with their vectors, and sixteen weights
record Whole (w : World) : Type 0 where
  shaped : Shaped w
  weights : length w.weights ≡ 16

-- a world that passes 17 has numbers that fit their fields
valid-fits : (w : World) → Whole w → valid_world w ≡ true → Fits w
valid-fits w whole valid =
    let shaped : Shaped w = whole.shaped in
    let z : Sized w.n w.weights w.commit w.abort w.willing = valid-sized w valid in
    let weights : Weighed w.n w.weights = weighed w.n w.weights z.weighed in
    record {
      sites = shaped.sites;
      codes = shaped.codes;
      joined = shaped.joined;
      weights = whole.weights;
      weights-fit = weight-fits w.n w.weights weights;
      n-fits = omega (arith, z.high);
      commit-fits = omega (arith, z.commit-most, rest-most w.n w.weights weights);
      abort-fits = omega (arith, z.abort-most, rest-most w.n w.weights weights);
      willing-fits = omega (arith, z.willing-below, bits_below w.n z.high);
      rows_fit = omega (arith, (valid_parts w valid).rows);
      news_fits_lem = omega (arith, (valid_parts w valid).news);
    }

-- the world of zeros fits too: it is the maker's for sizes 0
zero-shaped : Shaped zero_world
unfolding fresh_world sizes_number sites_fit
zero-shaped = shaped_fresh 0 (replicate 16 0) (record { 0 = 0 }) (record { 0 = 0 }) 0

zero-fits : Fits zero_world
unfolding zero_world
zero-fits =
    record {
      sites = zero-shaped.sites;
      codes = zero-shaped.codes;
      joined = zero-shaped.joined;
      weights = refl;
      weights-fit = λ j h. omega (arith, get_or-replicate {A = ℕ} 16 j 0 0 h);
      n-fits = omega arith;
      commit-fits = omega arith;
      abort-fits = omega arith;
      willing-fits = omega arith;
      rows_fit = omega arith;
      news_fits_lem = omega arith;
    }

-- what a play hands back fits: its world, its place within the list, and no more events than bytes passed
record Crossing (list : List ℕ) (p : Play) : Type 0 where
  world : Fits p.played.world
  place : p.played.place ≤ length list
  events : p.played.events ≤ p.played.place

crossing_stopped :
    (number : ℕ) (w : World) (store list : List ℕ) (at events : ℕ) (asks : List Ask) → Fits w → at ≤ length list → events ≤ at →
    Crossing list (stopped number w store at events asks)
unfolding stopped
crossing_stopped number w store list at events asks f h k = record { world = f; place = h; events = k }

crossing_after : (list : List ℕ) (ask : Ask) (p : Play) → Crossing list p → Crossing list (after_ask ask p)
unfolding after_ask
crossing_after list ask p q = record { world = q.world; place = q.place; events = q.events }

-- an accepted command leaves the weights
next-whole :
    (w : World) (store list : List ℕ) (at : ℕ) → Whole w → (one_command w store list at).number ≡ 0 →
    Whole (one_command w store list at).world
next-whole w store list at whole e =
    record {
      shaped = shaped-kept w store list at whole.shaped;
      weights = ap length (accepted_keeps_the_rest w store list at e).same_weights_lem ∙ whole.weights;
    }

from_crossing :
    (fuel : ℕ) (w : World) (store list : List ℕ) (at events : ℕ) → at ≤ length list → events ≤ at → store_bytes ≤ length store →
    valid_world w ≡ true → Whole w → Crossing list (play_from fuel w store list at events)
unfolding play_from
from_crossing zero w store list at events h few room valid whole =
    crossing_stopped 0 w store list at events [] (valid-fits w whole valid) h few
from_crossing (suc fuel) w store list at events h few room valid whole =
    let c : Call = one_command w store list at in
    play_ind (Crossing list) fuel w store list at events
    (λ l. crossing_stopped 0 w store list at events [] (valid-fits w whole valid) h few)
    (λ _ e. crossing_stopped c.number w store list at events (ask_at list at ∷ []) (valid-fits w whole valid) h few)
    (λ _ e. let k : Further list at c = further-one w store list at room valid whole.shaped e in
    crossing_after list (ask_at list at) (play_from fuel c.world c.store list c.place (events + 1))
    (from_crossing fuel c.world c.store list c.place (events + 1) k.within (omega (arith, k.after)) k.room
    k.valid (next-whole w store list at whole e)))

-- the world of a header
header_weighs : (list : List ℕ) → length (header_weights list) ≡ 16
unfolding header_weights even_weights weights_by
header_weighs list =
    pick_ind (λ l. length l ≡ 16) (is_second list) (weights_by (λ i. get_or list (8 + i) 0) (header_of list).n) (even_weights (header_of list).n)
    (λ _. stored_length _ (header_of list).n (replicate 16 0)) (λ _. stored_length _ (header_of list).n (replicate 16 0))

header-whole : (list : List ℕ) → Whole (header_world list)
unfolding header_world fresh_world zero_world
header-whole list =
    record {
      shaped = header-shaped list;
      weights =
          pick_ind (λ w. length w.weights ≡ 16) (eqb (sizes_number (header_of list).n (header_weights list) (header_of list).commit (header_of list).abort (header_of list).willing) 0)
          _ zero_world (λ _. header_weighs list) (λ _. refl);
    }

list_crossing : (store list : List ℕ) → Crossing list (play_list store list)
unfolding play_list refused_list
list_crossing store list =
    pick_ind (Crossing list) (ltb (length store) store_bytes) (refused_list 16 store)
    (pick (eqb (header_number list) 0) (play_from (length list) (header_world list) store list (header_length list) 0)
    (refused_list (header_number list) store))
    (λ _. crossing_stopped 16 zero_world store list 0 0 [] zero-fits (omega arith) (omega arith))
    (λ room. pick_ind (Crossing list) (eqb (header_number list) 0) (play_from (length list) (header_world list) store list (header_length list) 0)
    (refused_list (header_number list) store)
    (λ e. let head : header_number list ≡ 0 = eqb-true (header_number list) 0 e in
    from_crossing (length list) (header_world list) store list (header_length list) 0 (headed list head).whole (omega arith)
    (ltb-false (length store) store_bytes room) (header-valid list head) (header-whole list))
    (λ e. crossing_stopped (header_number list) zero_world store list 0 0 [] zero-fits (omega arith) (omega arith)))

-- a world that fits, written into a buffer of its length
holds : (b : List ℕ) (w : World) → length b ≡ world_bytes → Fits w → Holds (put_world b w) w
holds b w same f =
    record { inside = written-inside b w same; same = world-read-back b w (omega arith) f }

-- THEOREM: what a list's play gives is what the next call reads
pub list_crosses : ListCrosses
unfolding leave_play
list_crosses list store world result same eight =
    rw (list_plays list store world result same eight)
    (holds world (play_list store list).played.world same (list_crossing store list).world)

-- only a world that passes 17 has a command accepted
accepted-valid : (w : World) (store list : List ℕ) (at : ℕ) → (one_command w store list at).number ≡ 0 → valid_world w ≡ true
unfolding one_command refuse
accepted-valid w store list at e =
    by_test (ltb (length store) store_bytes)
    (λ short. let z : ◌≡◌ {A = ℕ} 16 0 = rw short at e in absurd (omega arith))
    (λ long.
    by_test (valid_world w) (λ v. v)
    (λ v. let z : ◌≡◌ {A = ℕ} 17 0 = rw (long, v) at e in absurd (omega arith)))

read_whole : (b : List ℕ) → Whole (world_at b)
read_whole b =
    record {
      shaped = record { sites = read-sites b; codes = read-codes b; joined = read-joined b };
      weights = read_weights_lem b;
    }

-- the world after an accepted command fits
next_fits :
    (b store list : List ℕ) (at : ℕ) → (one_command (world_at b) store list at).number ≡ 0 →
    Fits (one_command (world_at b) store list at).world
next_fits b store list at e =
    let v : valid_world (world_at b) ≡ true = accepted-valid (world_at b) store list at e in
    valid-fits (one_command (world_at b) store list at).world
    (next-whole (world_at b) store list at (read_whole b) e)
    (next-valid (world_at b) store list at (read_whole b).shaped v e).0

-- THEOREM: what an accepted command gives is what the next call reads
pub command_crosses : CommandCrosses
unfolding leave
command_crosses world store list at result e =
    by_test (ltb (length store) store_bytes)
    (λ s.
    let z : ◌≡◌ {A = ℕ} 16 0 = rw (command_16 world store list at result (ltb-true (length store) store_bytes s)) at e in
    absurd (omega arith))
    (λ s.
    let room : store_bytes ≤ length store = ltb-false (length store) store_bytes s in
    by_equal (length result) result_bytes
    (λ eight.
    by_test (in_layout world)
    (λ inside.
    by_equal (one_command (world_at world) store list at).number 0
    (λ accepted.
    rw (command-accepted world store list at result room eight inside accepted)
    (holds world (one_command (world_at world) store list at).world (inside-exact world inside)
    (next_fits world store list at accepted)))
    (λ refused. absurd (refused (rw (command-refused world store list at result room eight inside refused) at e))))
    (λ outside.
    let z : ◌≡◌ {A = ℕ} 17 0 = rw (command-17-world world store list at result room eight outside) at e in
    absurd (omega arith)))
    (λ other.
    let z : ◌≡◌ {A = ℕ} 17 0 = rw (command-17-result world store list at result room other) at e in
    absurd (omega arith)))

-- a refused header gives no events and place 0
refused-header : (store list : List ℕ) → (header_number list ≡ 0 → ⊥) → Small (play_list store list).played.events (play_list store list).played.place
unfolding play_list refused_list stopped
refused-header store list e =
    by_test (ltb (length store) store_bytes)
    (λ short. rw short (record { events-fit = omega arith; place-fits = omega arith }))
    (λ long.
    rw (long, ne_eqb (header_number list) 0 e) (record { events-fit = omega arith; place-fits = omega arith }))

-- THEOREM: events and place are at most 32,768
pub result_fits : ResultFits
result_fits store list =
    by_equal (header_number list) 0
    (λ e.
    record {
      events-fit =
          omega (arith, (headed list e).small, (list_crossing store list).place, (list_crossing store list).events);
      place-fits = omega (arith, (headed list e).small, (list_crossing store list).place);
    })
    (λ e. refused-header store list e)
