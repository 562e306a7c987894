-- Laws of playing from a place on.
use Rattle.std.specs.Prelude.{ℕ, zero, suc, ◌+◌, ◌-◌, ◌≤◌, ◌<◌, true, List, [], ◌∷◌, ◌≡◌, refl, ltb, length}
use Rattle.std.proofs.Math.Path.{ap}
use Rattle.std.proofs.Common.{sym, ◌∙◌, arith, lt-ltb, le-ltb, eq-eqb, ne_eqb, ltb-true, ltb-false}
use Rattle.choice.specs.laws.Cases.{by_test, by_equal}
use Rattle.world.specs.declared.World.{World}
use Rattle.world.specs.Sizes.{store_bytes}
use Rattle.world.specs.Valid.{valid_world}
use Rattle.play.specs.Calls.{Call}
use Rattle.play.specs.Commands.{play_command, one_command}
use Rattle.play.proofs.laws.CallLaws.{one-is_play}
use Rattle.safety.specs.Claims.{Shaped}
use Rattle.list.specs.Play.{Play, stopped, after_ask, ask_at, play_from}
use Rattle.list.specs.laws.CommandLaws.{place_after, store_kept, next-valid}

-- by fuel

pub ends :
    (fuel : ℕ) (w : World) (store list : List ℕ) (at events : ℕ) → length list ≤ at →
    play_from fuel w store list at events ≡ stopped 0 w store at events []
unfolding play_from
ends zero w store list at events h = refl
ends (suc fuel) w store list at events h = rw (le-ltb at (length list) h)

pub stops :
    (fuel : ℕ) (w : World) (store list : List ℕ) (at events : ℕ) → at < length list →
    ((one_command w store list at).number ≡ 0 → ⊥) →
    play_from (suc fuel) w store list at events
    ≡ stopped (one_command w store list at).number w store at events (ask_at list at ∷ [])
unfolding play_from
stops fuel w store list at events h e =
    rw (lt-ltb at (length list) h, ne_eqb (one_command w store list at).number 0 e)

pub goes_on :
    (fuel : ℕ) (w : World) (store list : List ℕ) (at events : ℕ) → at < length list → (one_command w store list at).number ≡ 0 →
    play_from (suc fuel) w store list at events
    ≡ after_ask (ask_at list at)
    (play_from fuel (one_command w store list at).world (one_command w store list at).store list
    (one_command w store list at).place (events + 1))
unfolding play_from
goes_on fuel w store list at events h e =
    rw (lt-ltb at (length list) h, eq-eqb (one_command w store list at).number 0 e)

-- a claim of a play with fuel, shown in these three cases
pub play_ind :
    (P : Play → Type 0) (fuel : ℕ) (w : World) (store list : List ℕ) (at events : ℕ) →
    (length list ≤ at → P (stopped 0 w store at events [])) →
    (at < length list → ((one_command w store list at).number ≡ 0 → ⊥) →
    P (stopped (one_command w store list at).number w store at events (ask_at list at ∷ []))) →
    (at < length list → (one_command w store list at).number ≡ 0 →
    P (after_ask (ask_at list at)
    (play_from fuel (one_command w store list at).world (one_command w store list at).store list
    (one_command w store list at).place (events + 1)))) →
    P (play_from (suc fuel) w store list at events)
play_ind P fuel w store list at events ended stopping going =
    by_test (ltb at (length list))
    (λ l. let h : at < length list = ltb-true at (length list) l in
    by_equal (one_command w store list at).number 0
    (λ e. rw (goes_on fuel w store list at events h e) (going h e))
    (λ e. rw (stops fuel w store list at events h e) (stopping h e)))
    (λ l. let h : length list ≤ at = ltb-false at (length list) l in
    rw (ends (suc fuel) w store list at events h) (ended h))

-- one accepted command of a list, where 16 and 17 need not be asked: what it leaves needs neither, and its place is further on
pub record Further (list : List ℕ) (at : ℕ) (c : Call) : Type 0 where
  pub room : store_bytes ≤ length c.store
  pub valid : valid_world c.world ≡ true
  pub shaped : Shaped c.world
  pub after : at < c.place
  pub within : c.place ≤ length list

pub further-one :
    (w : World) (store list : List ℕ) (at : ℕ) → store_bytes ≤ length store → valid_world w ≡ true → Shaped w →
    (one_command w store list at).number ≡ 0 → Further list at (one_command w store list at)
further-one w store list at room valid shaped e =
    let same : one_command w store list at ≡ play_command w store list at = one-is_play w store list at room valid in
    let place : (at < (one_command w store list at).place) × ((one_command w store list at).place ≤ length list) =
    rw same (place_after w store list at (rw same at e)) in
    record {
      room = rw (store_kept w store list at) room;
      valid = (next-valid w store list at shaped valid e).0;
      shaped = (next-valid w store list at shaped valid e).1;
      after = place.0;
      within = place.1;
    }

pub further :
    (w : World) (store list : List ℕ) (at : ℕ) → store_bytes ≤ length store → valid_world w ≡ true → Shaped w →
    (play_command w store list at).number ≡ 0 → Further list at (play_command w store list at)
further w store list at room valid shaped e =
    rw (← one-is_play w store list at room valid)
    (further-one w store list at room valid shaped (rw (one-is_play w store list at room valid) e))

-- fuel for each byte that is left is enough
pub enough :
    (f g : ℕ) (w : World) (store list : List ℕ) (at events : ℕ) → length list ≤ at + f → length list ≤ at + g →
    store_bytes ≤ length store → valid_world w ≡ true → Shaped w →
    play_from f w store list at events ≡ play_from g w store list at events
enough zero g w store list at events p q room valid shaped =
    ends zero w store list at events (omega arith) ∙ sym (ends g w store list at events (omega arith))
enough (suc f) zero w store list at events p q room valid shaped =
    ends (suc f) w store list at events (omega arith) ∙ sym (ends zero w store list at events (omega arith))
enough (suc f) (suc g) w store list at events p q room valid shaped =
    let c : Call = one_command w store list at in
    play_ind (λ x. x ≡ play_from (suc g) w store list at events) f w store list at events
    (λ h. sym (ends (suc g) w store list at events h))
    (λ h e. sym (stops g w store list at events h e))
    (λ h e. let k : Further list at c = further-one w store list at room valid shaped e in
    ap (after_ask (ask_at list at))
    (enough f g c.world c.store list c.place (events + 1) (omega arith) (omega arith) k.room k.valid k.shaped)
    ∙ sym (goes_on g w store list at events h e))

-- with just that fuel, as a loop goes

unfoldable pub rest : World → List ℕ → List ℕ → ℕ → ℕ → Play
rest w store list at events = play_from (length list - at) w store list at events

pub rest-ends :
    (w : World) (store list : List ℕ) (at events : ℕ) → length list ≤ at →
    rest w store list at events ≡ stopped 0 w store at events []
unfolding rest
rest-ends w store list at events h = ends (length list - at) w store list at events h

module _ (w : World) (store list : List ℕ) (at events : ℕ) (room : store_bytes ≤ length store) (valid : valid_world w ≡ true)
    (shaped : Shaped w) (h : at < length list) where
  -- fuel for one more
  rest_more : rest w store list at events ≡ play_from (suc (length list - at)) w store list at events
  unfolding rest
  rest_more =
      enough (length list - at) (suc (length list - at)) w store list at events (omega arith) (omega arith) room valid shaped

  pub rest-stops :
      ((play_command w store list at).number ≡ 0 → ⊥) →
      rest w store list at events ≡ stopped (play_command w store list at).number w store at events (ask_at list at ∷ [])
  rest-stops e =
      let same : one_command w store list at ≡ play_command w store list at = one-is_play w store list at room valid in
      rw (← same) (rest_more ∙ stops (length list - at) w store list at events h (rw same e))

  pub rest-goes_on :
      (play_command w store list at).number ≡ 0 →
      rest w store list at events
      ≡ after_ask (ask_at list at)
      (rest (play_command w store list at).world (play_command w store list at).store list
      (play_command w store list at).place (events + 1))
  unfolding rest
  rest-goes_on e =
      let same : one_command w store list at ≡ play_command w store list at = one-is_play w store list at room valid in
      let k : Further list at (play_command w store list at) = further w store list at room valid shaped e in
      rest_more
      ∙ (rw same at (goes_on (length list - at) w store list at events h (rw same e)))
      ∙ ap (after_ask (ask_at list at))
      (enough (length list - at) (length list - (play_command w store list at).place) (play_command w store list at).world
      (play_command w store list at).store list (play_command w store list at).place (events + 1) (omega arith) (omega arith)
      k.room k.valid k.shaped)

  -- all of it but the calls made
  pub on-played :
      (play_command w store list at).number ≡ 0 →
      (rest w store list at events).played
      ≡ (rest (play_command w store list at).world (play_command w store list at).store list
      (play_command w store list at).place (events + 1)).played
  unfolding after_ask
  on-played e = ap (λ p. p.played) (rest-goes_on e)

  pub on_store :
      (play_command w store list at).number ≡ 0 →
      (rest w store list at events).store
      ≡ (rest (play_command w store list at).world (play_command w store list at).store list
      (play_command w store list at).place (events + 1)).store
  unfolding after_ask
  on_store e = ap (λ p. p.store) (rest-goes_on e)
