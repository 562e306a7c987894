-- Laws of the header's world, and of a list's whole play.
use Rattle.std.specs.Prelude.{ℕ, ◌-◌, ◌≤◌, true, List, ◌≡◌, length}
use Rattle.std.proofs.Common.{◌∙◌, arith, le-ltb, eq-eqb}
use Rattle.world.specs.Sizes.{store_bytes}
use Rattle.world.specs.Valid.{valid_world}
use Rattle.header.specs.Headers.{header_of, header_weights, header_length, header_sizes, header_number, header_world}
use Rattle.header.specs.laws.HeaderLaws.{headed}
use Rattle.safety.specs.Claims.{Shaped}
use Rattle.safety.proofs.laws.Shape.{shaped_fresh}
use Rattle.list.specs.Play.{play_from, play_list}
use Rattle.safety.proofs.laws.FreshValid.{fresh-valid}
use Rattle.list.specs.laws.PlayLaws.{enough, rest}

-- the world of a header
pub header-valid : (list : List ℕ) → header_number list ≡ 0 → valid_world (header_world list) ≡ true
unfolding header_world header_sizes
header-valid list e =
    fresh-valid (header_of list).n (header_weights list) (header_of list).commit (header_of list).abort (header_of list).willing (headed list e).sizes

pub header-shaped : (list : List ℕ) → Shaped (header_world list)
unfolding header_world
header-shaped list = shaped_fresh (header_of list).n (header_weights list) (header_of list).commit (header_of list).abort (header_of list).willing

-- the whole play of a list whose header is not refused
pub whole_from :
    (store list : List ℕ) → header_number list ≡ 0 → store_bytes ≤ length store →
    play_list store list ≡ play_from (length list) (header_world list) store list (header_length list) 0
unfolding play_list
whole_from store list e room = rw (le-ltb (length store) store_bytes room, eq-eqb (header_number list) 0 e)

pub whole :
    (store list : List ℕ) → header_number list ≡ 0 → store_bytes ≤ length store →
    play_list store list ≡ rest (header_world list) store list (header_length list) 0
unfolding rest
whole store list e room =
    whole_from store list e room
    ∙ enough (length list) (length list - header_length list) (header_world list) store list (header_length list) 0 (omega arith) (omega arith) room
    (header-valid list e) (header-shaped list)
