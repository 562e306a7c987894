-- A list's calls follow on, and what never occurs in them.
use Rattle.std.specs.Prelude.{ℕ, zero, suc, ◌+◌, List, [], ◌∷◌, ◌≡◌, refl, ltb, eqb, length}
use Rattle.choice.specs.Choice.{pick}
use Rattle.choice.specs.laws.ChoiceLaws.{pick_ind}
use Rattle.world.specs.declared.World.{World}
use Rattle.world.specs.Sizes.{store_bytes}
use Rattle.header.specs.Headers.{header_of, header_weights, header_length, header_number, header_world}
use Rattle.play.specs.Calls.{Call}
use Rattle.play.specs.Commands.{one_command}
use Rattle.play.specs.Run.{Ask, call_of}
use Rattle.safety.proofs.laws.NeverOccurs.{never_occurs}
use Rattle.list.specs.Play.{stopped, after_ask, ask_at, play_from, refused_list, play_list}
use Rattle.list.specs.Claims.{FollowOn, ListFollowsOn, ListNeverOccurs}
use Rattle.list.specs.laws.PlayLaws.{play_ind}

-- an accepted call, and those that follow on from it
follow_next :
    (w : World) (store list : List ℕ) (at : ℕ) (asks : List Ask) → (one_command w store list at).number ≡ 0 →
    FollowOn (one_command w store list at).world (one_command w store list at).store (one_command w store list at).place asks →
    FollowOn w store at (ask_at list at ∷ asks)
unfolding FollowOn ask_at call_of
follow_next w store list at [] e f = refl
follow_next w store list at (b ∷ asks) e f = (refl, e, f)

from-follows :
    (fuel : ℕ) (w : World) (store list : List ℕ) (at events : ℕ) →
    FollowOn w store at (play_from fuel w store list at events).asks
unfolding play_from stopped FollowOn after_ask ask_at
from-follows zero w store list at events = record {}
from-follows (suc fuel) w store list at events =
    let c : Call = one_command w store list at in
    play_ind (λ p. FollowOn w store at p.asks) fuel w store list at events (λ _. record {}) (λ _ _. refl)
    (λ _ e. follow_next w store list at (play_from fuel c.world c.store list c.place (events + 1)).asks e
    (from-follows fuel c.world c.store list c.place (events + 1)))

pub list-follows-on : ListFollowsOn
unfolding play_list refused_list stopped FollowOn
list-follows-on store list =
    pick_ind (λ p. FollowOn (header_world list) store (header_length list) p.asks) (ltb (length store) store_bytes) (refused_list 16 store)
    (pick (eqb (header_number list) 0) (play_from (length list) (header_world list) store list (header_length list) 0)
    (refused_list (header_number list) store))
    (λ _. record {})
    (λ _. pick_ind (λ p. FollowOn (header_world list) store (header_length list) p.asks) (eqb (header_number list) 0)
    (play_from (length list) (header_world list) store list (header_length list) 0) (refused_list (header_number list) store)
    (λ _. from-follows (length list) (header_world list) store list (header_length list) 0) (λ _. record {}))

-- a list's calls are calls from the maker's world
pub list-never_occurs : ListNeverOccurs
unfolding header_world
list-never_occurs store list first rest ask d next split =
    never_occurs (header_of list).n (header_weights list) (header_of list).commit (header_of list).abort (header_of list).willing store first ask d next
