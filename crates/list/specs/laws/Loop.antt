-- A list's play as a loop over its commands: how it begins, goes on, stops and ends.
use Rattle.std.specs.Prelude.{ℕ, ◌+◌, ◌≤◌, ◌<◌, true, List, ◌≡◌, length}
use Rattle.std.proofs.Math.Path.{ap}
use Rattle.std.proofs.Common.{sym, ◌∙◌, arith}
use Rattle.world.specs.declared.World.{World}
use Rattle.world.specs.Sizes.{store_bytes}
use Rattle.world.specs.Valid.{valid_world}
use Rattle.header.specs.Headers.{header_length, header_number, header_world}
use Rattle.header.specs.laws.HeaderLaws.{headed}
use Rattle.play.specs.Commands.{play_command}
use Rattle.safety.specs.Claims.{Shaped}
use Rattle.list.specs.Play.{Play, stopped, play_list}
use Rattle.list.specs.laws.CommandLaws.{refused-same}
use Rattle.list.specs.laws.PlayLaws.{Further, further, rest, rest-ends, rest-stops, on-played, on_store}
use Rattle.list.specs.laws.HeaderLaws.{header-valid, header-shaped, whole}

-- before a command, or at the end, of a list whose whole play is p
pub record Underway (p : Play) (w : World) (store list : List ℕ) (at events : ℕ) : Type 0 where
  pub room : store_bytes ≤ length store
  pub valid : valid_world w ≡ true
  pub shaped : Shaped w
  pub within : at ≤ length list
  pub few : events ≤ at
  pub played : (rest w store list at events).played ≡ p.played
  pub kept : (rest w store list at events).store ≡ p.store

-- the whole play p is what is handed back
pub record Over (p : Play) (number : ℕ) (w : World) (store : List ℕ) (at events : ℕ) : Type 0 where
  pub played : record { number = number; world = w; events = events; place = at } ≡ p.played
  pub kept : store ≡ p.store

pub loop_begins :
    (store list : List ℕ) → header_number list ≡ 0 → store_bytes ≤ length store →
    Underway (play_list store list) (header_world list) store list (header_length list) 0
loop_begins store list e room =
    record {
      room = room;
      valid = header-valid list e;
      shaped = header-shaped list;
      within = (headed list e).whole;
      few = omega arith;
      played = ap (λ q. q.played) (sym (whole store list e room));
      kept = ap (λ q. q.store) (sym (whole store list e room));
    }

module _ (p : Play) (w : World) (store list : List ℕ) (at events : ℕ) (u : Underway p w store list at events) where
  pub loop_goes_on :
      at < length list → (play_command w store list at).number ≡ 0 →
      Underway p (play_command w store list at).world (play_command w store list at).store list
      (play_command w store list at).place (events + 1)
  loop_goes_on h e =
      let k : Further list at (play_command w store list at) = further w store list at u.room u.valid u.shaped e in
      record {
        room = k.room;
        valid = k.valid;
        shaped = k.shaped;
        within = k.within;
        few = omega arith;
        played = sym (on-played w store list at events u.room u.valid u.shaped h e) ∙ u.played;
        kept = sym (on_store w store list at events u.room u.valid u.shaped h e) ∙ u.kept;
      }

  pub loop_stops :
      at < length list → ((play_command w store list at).number ≡ 0 → ⊥) →
      Over p (play_command w store list at).number w (play_command w store list at).store at events
  unfolding stopped
  loop_stops h e =
      record {
        played = ap (λ q. q.played) (sym (rest-stops w store list at events u.room u.valid u.shaped h e)) ∙ u.played;
        kept =
            (refused-same w store list at u.room u.valid e).store_same
            ∙ ap (λ q. q.store) (sym (rest-stops w store list at events u.room u.valid u.shaped h e))
            ∙ u.kept;
      }

  pub loop_ends : length list ≤ at → Over p 0 w store at events
  unfolding stopped
  loop_ends h =
      record {
        played = ap (λ q. q.played) (sym (rest-ends w store list at events h)) ∙ u.played;
        kept = ap (λ q. q.store) (sym (rest-ends w store list at events h)) ∙ u.kept;
      }
