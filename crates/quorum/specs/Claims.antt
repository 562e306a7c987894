-- What is claimed of worlds that cross to C: the next call reads the world that the last one gave, and the result's 32 bits hold their numbers.
use Rattle.std.specs.Prelude.{ℕ, ◌≤◌, true, List, ◌≡◌, length}
use Rattle.world.specs.declared.World.{World}
use Rattle.world.specs.Sizes.{list_bytes}
use Rattle.play.specs.Commands.{one_command}
use Rattle.list.specs.Play.{play_list}
use Rattle.layout.specs.Layout.{world_bytes, world_at, in_layout}
use Rattle.calls.specs.Calls.{result_bytes, list_call, command_call}

-- the bytes are inside the layout and hold the world
pub record Holds (bytes : List ℕ) (w : World) : Type 0 where
  pub inside : in_layout bytes ≡ true
  pub same : world_at bytes ≡ w

-- any list, where the buffers have the layout's lengths
abbrev pub ListCrosses : Type 0
ListCrosses =
    (list store world result : List ℕ) → length world ≡ world_bytes → length result ≡ result_bytes →
    Holds (list_call list store world result).world (play_list store list).played.world

-- an accepted command
abbrev pub CommandCrosses : Type 0
CommandCrosses =
    (world store list : List ℕ) (at : ℕ) (result : List ℕ) → (command_call world store list at result).number ≡ 0 →
    Holds (command_call world store list at result).world (one_command (world_at world) store list at).world

-- the numbers of a list's play
pub record Small (events place : ℕ) : Type 0 where
  pub events-fit : events ≤ list_bytes
  pub place-fits : place ≤ list_bytes

abbrev pub ResultFits : Type 0
ResultFits = (store list : List ℕ) → Small (play_list store list).played.events (play_list store list).played.place
