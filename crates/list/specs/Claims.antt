-- What is claimed of playing a whole list.
use Rattle.std.specs.Prelude.{ℕ, ◌+◌, ◌≤◌, Bool, true, List, [], ◌∷◌, ◌++◌, ◌≡◌, leb, eqb, length, get_or}
use Rattle.choice.specs.Choice.{pick, either}
use Rattle.row.specs.Rows.{row_place}
use Rattle.site.specs.Records.{Written}
use Rattle.command.specs.declared.Command.TheVariants as Command·
use Rattle.command.specs.declared.Delivery.{Delivery}
use Rattle.command.specs.Commands.{read_command, found}
use Rattle.world.specs.declared.World.{World}
use Rattle.world.specs.Sizes.{store_bytes}
use Rattle.header.specs.Headers.{header_of, header_length, header_number, header_world}
use Rattle.play.specs.Run.{Ask, Ran, run, call_of}
use Rattle.history.specs.Safe.{Safe}
use Rattle.safety.specs.Claims.{Delivered}
use Rattle.list.specs.Play.{Play, play_list, ask_at}

-- each call is of the list itself
unfoldable pub OfList : List ℕ → List Ask → Type 0
OfList list [] = Unit
OfList list (a ∷ asks) = (a ≡ ask_at list a.place) × OfList list asks

-- a play is the run of its calls from a world: one call for each accepted command, and one more where it was stopped
pub record IsRun (w : World) (store list : List ℕ) (p : Play) : Type 0 where
  pub of_list : OfList list p.asks
  pub one_each : length p.asks ≡ p.played.events + pick (eqb p.played.number 0) 0 1
  pub same-world : (run w store p.asks).world ≡ p.played.world
  pub same_store : (run w store p.asks).store ≡ p.store

-- a list whose length and header are accepted is the run of one-command calls from its header's fresh world
abbrev pub ListIsRun : Type 0
ListIsRun =
    (store list : List ℕ) → store_bytes ≤ length store → header_number list ≡ 0 →
    IsRun (header_world list) store list (play_list store list)

-- all records written over a list's play
abbrev pub list_records : List ℕ → List ℕ → List Written
list_records store list = (run (header_world list) store (play_list store list).asks).records

-- demand 3 of every list
abbrev pub ListSafe : Type 0
ListSafe = (store list : List ℕ) → Safe (header_of list).n (header_of list).willing (list_records store list)

-- a number at which a list is stopped: 1 to 16 or 21, and 0 for none; 17 is none of them
unfoldable pub is_stop : ℕ → Bool
is_stop number = either (leb number 16) (eqb number 21)

-- every list is played to its end, or stopped at one of 1 to 16 or at 21: 17 never arises
pub record Ends (list : List ℕ) (p : Play) : Type 0 where
  pub in_table : is_stop p.played.number ≡ true
  pub to_the_end : p.played.number ≡ 0 → p.played.place ≡ length list
  pub within : p.played.place ≤ length list

abbrev pub ListEnds : Type 0
ListEnds = (store list : List ℕ) → Ends list (play_list store list)

-- the news of a list's world is the sum of its calls' news
abbrev pub ListNewsIsSum : Type 0
ListNewsIsSum =
    (store list : List ℕ) →
    (play_list store list).played.world.news ≡ (run (header_world list) store (play_list store list).asks).news

-- and at most 122,850: fifteen for each delivery, of which a list has room for 8,190. So no played list reaches 491,520
abbrev pub ListNewsIsLow : Type 0
ListNewsIsLow = (store list : List ℕ) → (play_list store list).played.world.news ≤ 122850

-- calls that follow on, from a world, a store and a place: each begins where the one before ended, and all but the last are accepted
unfoldable pub FollowOn : World → List ℕ → ℕ → List Ask → Type 0
FollowOn w store at [] = Unit
FollowOn w store at (a ∷ []) = a.place ≡ at
FollowOn w store at (a ∷ b ∷ asks) =
    (a.place ≡ at) × ((call_of w store a).number ≡ 0)
    × FollowOn (call_of w store a).world (call_of w store a).store (call_of w store a).place (b ∷ asks)

-- a list's calls follow on, from its header's fresh world and the first command's place
abbrev pub ListFollowsOn : Type 0
ListFollowsOn = (store list : List ℕ) → FollowOn (header_world list) store (header_length list) (play_list store list).asks

-- a list's world and store after the first calls of its play
abbrev pub list_run : List ℕ → List ℕ → List Ask → Ran
list_run store list first = run (header_world list) store first

-- neither conflict nor a join commit at an active site occurs in a played list: whichever of its calls is an accepted delivery
abbrev pub ListNeverOccurs : Type 0
ListNeverOccurs =
    (store list : List ℕ) (first rest : List Ask) (ask : Ask) (d : Delivery) (next : ℕ) →
    (play_list store list).asks ≡ first ++ (ask ∷ rest) →
    read_command ask.list ask.place ≡ found (Command·.Deliver d) next →
    (call_of (list_run store list first).world (list_run store list first).store ask).number ≡ 0 →
    Delivered (list_run store list first).world (list_run store list first).store d.row d.site

-- the store keeps its length, and beyond the last row its bytes
pub record KeptBeyond (store : List ℕ) (p : Play) : Type 0 where
  pub same_length : length p.store ≡ length store
  pub same_bytes : (b : ℕ) → row_place p.played.world.rows ≤ b → get_or p.store b 0 ≡ get_or store b 0

abbrev pub ListKeepsBeyond : Type 0
ListKeepsBeyond = (store list : List ℕ) → KeptBeyond store (play_list store list)
