-- The play of commands after a header is the play of the list that begins after the header, its places shifted by the header's length.
use Prim.Native.Nat.{ℕ, zero, suc, ◌+◌, ◌≤◌}
use Rattle.std.specs.Prelude.{List, [], ◌∷◌, ◌++◌, ◌≡◌, refl, length, drop}
use Rattle.std.proofs.Common.{sym, ◌∙◌, arith}
use Rattle.std.proofs.Math.Path.{ap}
use Rattle.std.proofs.Math.ListN.{length-drop}
use Rattle.world.specs.declared.World.{World}
use Rattle.play.specs.Calls.{Call}
use Rattle.play.specs.Commands.{one_command}
use Rattle.play.specs.Run.{run, call_of, after_call}
use Rattle.list.specs.Play.{Play, stopped, after_ask, ask_at, play_from}
use Rattle.list.specs.laws.PlayLaws.{ends, stops, goes_on, play_ind}
use Rattle.both_editions.proofs.laws.Shift.{call_on, one_on}

-- a play whose place is further on than another's by h, and all else the same: the records too that its calls write from a world and a store
pub record Further (h : ℕ) (w : World) (store : List ℕ) (p q : Play) : Type 0 where
  pub world_same : p.played.world ≡ q.played.world
  pub store_same : p.store ≡ q.store
  pub events-same : p.played.events ≡ q.played.events
  pub number_same : p.played.number ≡ q.played.number
  pub records-same : (run w store p.asks).records ≡ (run w store q.asks).records
  pub place-on : p.played.place ≡ h + q.played.place

module _ (list : List ℕ) (h : ℕ) (inside : h ≤ length list) where
  module _ (w : World) (store : List ℕ) (at from events : ℕ) (e : from ≡ h + at) where
    -- one call, in the list and in what is left of it
    one : one_command w store list from ≡ call_on h (one_command w store (drop h list) at)
    one = ap (one_command w store list) e ∙ one_on h w store list at inside

    further-ends : Further h w store (stopped 0 w store from events []) (stopped 0 w store at events [])
    unfolding stopped
    further-ends =
        record { world_same = refl; store_same = refl; events-same = refl; number_same = refl; records-same = refl; place-on = e }

    further-stops :
        Further h w store (stopped (one_command w store list from).number w store from events (ask_at list from ∷ []))
        (stopped (one_command w store (drop h list) at).number w store at events (ask_at (drop h list) at ∷ []))
    unfolding stopped run after_call call_of ask_at call_on
    further-stops =
        record {
          world_same = refl;
          store_same = refl;
          events-same = refl;
          number_same = ap (λ c. c.number) one;
          records-same = ap (λ c. c.records ++ []) one;
          place-on = e;
        }

    -- and one after it
    further-after :
        (p q : Play) →
        Further h (one_command w store (drop h list) at).world (one_command w store (drop h list) at).store p q →
        Further h w store (after_ask (ask_at list from) p) (after_ask (ask_at (drop h list) at) q)
    unfolding after_ask run after_call call_of ask_at call_on
    further-after p q f =
        record {
          world_same = f.world_same;
          store_same = f.store_same;
          events-same = f.events-same;
          number_same = f.number_same;
          records-same =
              ap (λ c. c.records ++ (run c.world c.store p.asks).records) one
              ∙ ap (λ r. (one_command w store (drop h list) at).records ++ r) f.records-same;
          place-on = f.place-on;
        }

  -- from a place on
  pub further :
      (fuel : ℕ) (w : World) (store : List ℕ) (at from events : ℕ) → from ≡ h + at →
      Further h w store (play_from fuel w store list from events) (play_from fuel w store (drop h list) at events)
  unfolding play_from call_on
  further zero w store at from events e = further-ends w store at from events e
  further (suc fuel) w store at from events e =
      let c : Call = one_command w store (drop h list) at in
      let d : Call = one_command w store list from in
      let same : d ≡ call_on h c = one w store at from events e in
      play_ind (λ q. Further h w store (play_from (suc fuel) w store list from events) q) fuel w store (drop h list) at events
      (λ past. rw (ends (suc fuel) w store list from events (omega (arith, length-drop h list))) (further-ends w store at from events e))
      (λ below bad. rw (stops fuel w store list from events (omega (arith, length-drop h list)) (λ z. bad (sym (ap (λ x. x.number) same) ∙ z)))
      (further-stops w store at from events e))
      (λ below good. rw (goes_on fuel w store list from events (omega (arith, length-drop h list)) (ap (λ x. x.number) same ∙ good))
      (further-after w store at from events e (play_from fuel d.world d.store list d.place (events + 1))
      (play_from fuel c.world c.store (drop h list) c.place (events + 1))
      (rw (ap (λ x. x.world) same, ap (λ x. x.store) same)
      (further fuel c.world c.store c.place d.place (events + 1) (ap (λ x. x.place) same)))))
