-- Playing a whole list: a header of either edition, then commands to the end.
-- Refusals: 16 store; then the header's, 1 to 5 and 21.
use Rattle.std.specs.Prelude.{ℕ, zero, suc, ◌+◌, List, [], ◌∷◌, ltb, eqb, length}
use Rattle.choice.specs.Choice.{pick}
use Rattle.refusals.specs.Refusals.{stop_number}
use Rattle.world.specs.declared.World.{World}
use Rattle.world.specs.Sizes.{store_bytes}
use Rattle.world.specs.Worlds.{zero_world}
use Rattle.header.specs.Headers.{header_length, header_number, header_world}
use Rattle.play.specs.Commands.{one_command}
use Rattle.play.specs.Run.{Ask}
use Rattle.list.specs.declared.ListPlayed.{ListPlayed}

-- what a caller is told of a list's play: number (0: played to the end), world, accepted events and place
pub record Ended : Type 0 where
  pub number : ℕ
  pub world : World
  pub events : ℕ
  pub place : ℕ

-- what the code hands back, as that
abbrev pub ended : ListPlayed → Ended
ended p = record { number = stop_number p.stop; world = p.world; events = p.events; place = p.place }

-- what playing leaves: number (0: played to the end), world, accepted events and place; the store; and the calls made, in order
pub record Play : Type 0 where
  pub played : Ended
  pub store : List ℕ
  pub asks : List Ask

-- the end, or a stop at a command: world and store before it, its place, the events accepted
unfoldable pub stopped : ℕ → World → List ℕ → ℕ → ℕ → List Ask → Play
stopped number w store at events asks =
    record {
      played = record { number = number; world = w; events = events; place = at };
      store = store;
      asks = asks;
    }

unfoldable pub after_ask : Ask → Play → Play
after_ask ask p = record { played = p.played; store = p.store; asks = ask ∷ p.asks }

unfoldable pub ask_at : List ℕ → ℕ → Ask
ask_at list at = record { list = list; place = at }

-- commands from a place on, one call each, to the list's end or the first refusal; `fuel` bounds the commands that are left
unfoldable pub play_from : ℕ → World → List ℕ → List ℕ → ℕ → ℕ → Play
play_from zero w store list at events = stopped 0 w store at events []
play_from (suc fuel) w store list at events =
    let call = one_command w store list at in
    let next = play_from fuel call.world call.store list call.place (events + 1) in
    pick (ltb at (length list))
    (pick (eqb call.number 0) (after_ask (ask_at list at) next)
    (stopped call.number w store at events (ask_at list at ∷ [])))
    (stopped 0 w store at events [])

-- a header's refusal: the world of zeros, no events, place 0, store untouched
unfoldable pub refused_list : ℕ → List ℕ → Play
refused_list number store = stopped number zero_world store 0 0 []

-- A WHOLE LIST: any bytes, any length, any store
unfoldable pub play_list : List ℕ → List ℕ → Play
play_list store list =
    pick (ltb (length store) store_bytes) (refused_list 16 store)
    (pick (eqb (header_number list) 0) (play_from (length list) (header_world list) store list (header_length list) 0)
    (refused_list (header_number list) store))
