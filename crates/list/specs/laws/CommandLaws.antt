-- Laws of one command, for the play of lists.
use Rattle.std.specs.Prelude.{ℕ, ◌+◌, ◌-◌, ◌≤◌, ◌<◌, true, List, ◌≡◌, length}
use Rattle.std.proofs.Common.{ap}
use Rattle.choice.specs.laws.Cases.{by_equal}
use Rattle.world.specs.declared.World.{World}
use Rattle.world.specs.Sizes.{max_news, store_bytes}
use Rattle.world.specs.Valid.{valid_world}
use Rattle.play.specs.Commands.{play_command, one_command}
use Rattle.play.proofs.laws.CallLaws.{one-is_play}
use Rattle.safety.specs.Claims.{Shaped, Unchanged}
use Rattle.safety.proofs.laws.Unchanging.{refused_changes_nothing, accepted_keeps_the_rest}
use Rattle.safety.proofs.laws.Shape.{shaped-kept}
use Rattle.safety.proofs.laws.Validity.{valid-stays-valid}
use Rattle.list.specs.laws.Places.{Told, placed}

-- the place where accepted
pub place_after :
    (w : World) (store list : List ℕ) (at : ℕ) → (play_command w store list at).number ≡ 0 →
    (at < (play_command w store list at).place) × ((play_command w store list at).place ≤ length list)
place_after w store list at e =
    (((placed w store list at).accepted e).after, ((placed w store list at).accepted e).within)

-- a number to 15, where the news has room
pub number-below :
    (w : World) (store list : List ℕ) (at : ℕ) → w.news + (w.n - 1) ≤ max_news → (play_command w store list at).number ≤ 15
number-below w store list at room = (placed w store list at).small room

-- the news where accepted
pub news-told :
    (w : World) (store list : List ℕ) (at : ℕ) → (play_command w store list at).number ≡ 0 →
    Told w at (play_command w store list at).place (play_command w store list at).news
news-told w store list at e = (placed w store list at).told e

-- a refused command leaves world and store
pub refused-same :
    (w : World) (store list : List ℕ) (at : ℕ) → store_bytes ≤ length store → valid_world w ≡ true →
    ((play_command w store list at).number ≡ 0 → ⊥) → Unchanged w store (play_command w store list at)
refused-same w store list at room valid e =
    rw (← one-is_play w store list at room valid)
    (refused_changes_nothing w store list at (rw (one-is_play w store list at room valid) e))

-- the store's length, refused or accepted
pub store_kept : (w : World) (store list : List ℕ) (at : ℕ) → length (one_command w store list at).store ≡ length store
store_kept w store list at =
    by_equal (one_command w store list at).number 0 (λ e. (accepted_keeps_the_rest w store list at e).same_length)
    (λ e. ap length (refused_changes_nothing w store list at e).store_same)

-- the world after an accepted command
pub next-valid :
    (w : World) (store list : List ℕ) (at : ℕ) → Shaped w → valid_world w ≡ true → (one_command w store list at).number ≡ 0 →
    (valid_world (one_command w store list at).world ≡ true) × Shaped (one_command w store list at).world
next-valid w store list at shaped valid e =
    (valid-stays-valid w store list at shaped valid e, shaped-kept w store list at shaped)
