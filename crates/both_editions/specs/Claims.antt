-- What is claimed of carrying a list from one edition to the other.
use Rattle.std.specs.Prelude.{ℕ, ◌+◌, ◌≤◌, ◌<◌, true, false, not, List, ◌≡◌, length, get_or, drop}
use Rattle.world.specs.Sizes.{list_bytes, store_bytes}
use Rattle.header.specs.Headers.{is_second, header_of, header_weights, header_length, header_number}
use Rattle.spelling.specs.WriteRead.{Output}
use Rattle.round_trip.specs.Claims.{output, Bytes, Gives, Untouched}
use Rattle.list.specs.Play.{play_list}
use Rattle.list.specs.Claims.{list_records}
use Rattle.conversion.specs.Conversion.{convert}

-- every weight of a second-edition header is 1
abbrev pub AllWeighOne : List ℕ → Type 0
AllWeighOne list = (i : ℕ) → i < (header_of list).n → get_or list (8 + i) 0 ≡ 1

-- going back is possible exactly when all weights are 1, and else the number is 22: of a second-edition list whose length and header are accepted, with
-- room for what has n + 3 bytes less
pub record BackWhereEven (list b : List ℕ) : Type 0 where
  pub accepted_even : (convert list b).answer.number ≡ 0 → AllWeighOne list
  pub even_accepted : AllWeighOne list → (convert list b).answer.number ≡ 0
  pub uneven_refused : (AllWeighOne list → ⊥) → (convert list b).answer.number ≡ 22

abbrev pub BackExactly : Type 0
BackExactly =
    (list b : List ℕ) → is_second list ≡ true → header_number list ≡ 0 → length list ≤ length b + ((header_of list).n + 3) → BackWhereEven list b

-- a list carried to the other edition: its header is accepted there, has the same numbers and weights, and is n + 3 bytes longer in the second edition; the
-- bytes after it are the same
pub record CarriedTo (list other : List ℕ) : Type 0 where
  pub other_edition : is_second other ≡ not (is_second list)
  pub accepted : header_number other ≡ 0
  pub same-header : header_of other ≡ header_of list
  pub same_weights_lem : header_weights other ≡ header_weights list
  pub longer : is_second list ≡ false → header_length other ≡ header_length list + ((header_of list).n + 3)
  pub shorter : is_second list ≡ true → header_length list ≡ header_length other + ((header_of list).n + 3)
  pub same-commands : drop (header_length other) other ≡ drop (header_length list) list

-- what an accepted call has written is such a list
abbrev pub WrittenIsCarried : Type 0
WrittenIsCarried = (list b : List ℕ) → (convert list b).answer.number ≡ 0 → CarriedTo list (output (convert list b))

-- forth and back gives the first bytes again, and back and forth too: what an accepted call has written, handed in with room
abbrev pub ThereAndBack : Type 0
ThereAndBack =
    (list b c : List ℕ) → Bytes list → (convert list b).answer.number ≡ 0 → length list ≤ length c →
    Gives (convert (output (convert list b)) c) (length (output (convert list b))) list

-- the plays of two lists from one store: the same world, rows and store, the same events, number and records; end and refusal places are apart by what the
-- headers' lengths are apart, but for 16's, which is that of a store too short, and at 0
pub record PlaysAlike (store list other : List ℕ) : Type 0 where
  pub same-world : (play_list store list).played.world ≡ (play_list store other).played.world
  pub same_store : (play_list store list).store ≡ (play_list store other).store
  pub same-events : (play_list store list).played.events ≡ (play_list store other).played.events
  pub same_number : (play_list store list).played.number ≡ (play_list store other).played.number
  pub same-records : list_records store list ≡ list_records store other
  pub shifted :
      store_bytes ≤ length store →
      (play_list store list).played.place + header_length other ≡ (play_list store other).played.place + header_length list
  pub short :
      length store < store_bytes →
      ((play_list store list).played.number ≡ 16) × ((play_list store list).played.place ≡ 0) × ((play_list store other).played.place ≡ 0)

-- a list and what an accepted call has written of it
abbrev pub SamePlay : Type 0
SamePlay = (store list b : List ℕ) → (convert list b).answer.number ≡ 0 → PlaysAlike store list (output (convert list b))

-- a refusal leaves the buffer, and is at place 0; past the output's end the buffer is always untouched
pub record RefusedAtStart (o : Output) (b : List ℕ) : Type 0 where
  pub untouched : Untouched o b
  pub at-start : (o.answer.number ≡ 0 → ⊥) → o.answer.place ≡ 0

abbrev pub ConvertKeeps : Type 0
ConvertKeeps = (list b : List ℕ) → RefusedAtStart (convert list b) b

-- a buffer of 32,768 bytes always has room: 20 is not met
abbrev pub ConvertHasRoom : Type 0
ConvertHasRoom = (list b : List ℕ) → list_bytes ≤ length b → (convert list b).answer.number ≡ 20 → ⊥
