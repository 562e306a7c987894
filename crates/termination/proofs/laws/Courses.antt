-- A course is a run of calls; what a leg of it costs.
use Prim.Native.Nat.{ℕ, zero, suc, ◌+◌, ◌≤◌, ◌<◌}
use Rattle.std.specs.Prelude.{List, [], ◌∷◌, ◌++◌, ◌≡◌, ltb, eqb, length}
use Rattle.std.proofs.Math.Path.{refl, ap, subst}
use Rattle.std.proofs.Common.{sym, ◌∙◌, arith, length-append}
use Rattle.choice.specs.laws.ChoiceLaws.{pick_ind}
use Rattle.row.specs.Rows.{get_row}
use Rattle.rules.specs.Rules.{Move}
use Rattle.command.specs.declared.Command.{Command}
use Rattle.world.specs.declared.World.{World}
use Rattle.play.specs.Run.{Ask, run, call_of, after_call}
use Rattle.quiet.specs.Quiet.{row_to}
use Rattle.quiet_run.specs.Claims.{ask_of, asks_of, AllAccepted}
use Rattle.termination.specs.Schedule.{Course, set_out, give, waited_at, hand_on, deliver_to, visit, visits, turn, turns, in_turn, rounds, three_rounds}
use Rattle.termination.specs.Claims.{IsRun, RoundsAreCalls}
use Rattle.termination.proofs.laws.Fine.{Fine, Grows, grows_none, grows_then, Went}

-- AS CALLS

-- one command more
pub asks-more : (cs : List Command) (c : Command) → asks_of (cs ++ (c ∷ [])) ≡ asks_of cs ++ (ask_of c ∷ [])
unfolding asks_of
asks-more [] c = refl
asks-more (b ∷ cs) c = ap (λ l. ask_of b ∷ l) (asks-more cs c)

-- one call after a run
run-world : (w : World) (s : List ℕ) (asks : List Ask) (a : Ask) →
    (run w s (asks ++ (a ∷ []))).world ≡ (call_of (run w s asks).world (run w s asks).store a).world
unfolding run after_call
run-world w s [] a = refl
run-world w s (b ∷ asks) a = run-world (call_of w s b).world (call_of w s b).store asks a

run_store : (w : World) (s : List ℕ) (asks : List Ask) (a : Ask) →
    (run w s (asks ++ (a ∷ []))).store ≡ (call_of (run w s asks).world (run w s asks).store a).store
unfolding run after_call
run_store w s [] a = refl
run_store w s (b ∷ asks) a = run_store (call_of w s b).world (call_of w s b).store asks a

-- an accepted call after accepted ones
accepted-more : (w : World) (s : List ℕ) (asks : List Ask) (a : Ask) → AllAccepted w s asks →
    (call_of (run w s asks).world (run w s asks).store a).number ≡ 0 → AllAccepted w s (asks ++ (a ∷ []))
unfolding AllAccepted run after_call
accepted-more w s [] a all e = (e, tt)
accepted-more w s (b ∷ asks) a all e = (all.0, accepted-more (call_of w s b).world (call_of w s b).store asks a all.1 e)

module _ (w : World) (s : List ℕ) where
  pub run_given : (c : Command) (t : Course) → IsRun w s t → IsRun w s (give c t)
  unfolding give
  run_given c t r =
      record {
        same-world =
            ap (λ l. (run w s l).world) (asks-more t.commands c) ∙ run-world w s (asks_of t.commands) (ask_of c)
            ∙ ap (λ x. (call_of x (run w s (asks_of t.commands)).store (ask_of c)).world) r.same-world
            ∙ ap (λ x. (call_of t.world x (ask_of c)).world) r.same_store;
        same_store =
            ap (λ l. (run w s l).store) (asks-more t.commands c) ∙ run_store w s (asks_of t.commands) (ask_of c)
            ∙ ap (λ x. (call_of x (run w s (asks_of t.commands)).store (ask_of c)).store) r.same-world
            ∙ ap (λ x. (call_of t.world x (ask_of c)).store) r.same_store;
      }

  pub accepted_given : (c : Command) (t : Course) → IsRun w s t → AllAccepted w s (asks_of t.commands) →
      (call_of t.world t.store (ask_of c)).number ≡ 0 → AllAccepted w s (asks_of (give c t).commands)
  unfolding give
  accepted_given c t r all e =
      subst (AllAccepted w s) (sym (asks-more t.commands c))
      (accepted-more w s (asks_of t.commands) (ask_of c) all
      (ap (λ x. (call_of x (run w s (asks_of t.commands)).store (ask_of c)).number) r.same-world
      ∙ ap (λ x. (call_of t.world x (ask_of c)).number) r.same_store ∙ e))

  pub run-set_out : IsRun w s (set_out w s)
  unfolding set_out asks_of run
  run-set_out = record { same-world = refl; same_store = refl }

-- what one command more keeps, the rounds keep
module _ (P : Course → Type 0) (given : (c : Command) (t : Course) → P t → P (give c t)) where
  keeps_handed : (next : ℕ → Course → Course) (before after : Course) → ((k : ℕ) → P (next k after)) → P after → P (hand_on next before after)
  unfolding hand_on
  keeps_handed next before after each p =
      pick_ind P (ltb before.world.rows after.world.rows) (next _ after) after (λ _. each _) (λ _. p)

  keeps_visit : (i k j : ℕ) (t : Course) → P t → P (visit i k j t)
  unfolding visit deliver_to
  keeps_visit i k j t p =
      pick_ind P (eqb j i) t (hand_on _ t (give (row_to k j) t)) (λ _. p)
      (λ _. keeps_handed _ t (give (row_to k j) t) (λ x. given _ (give (row_to k j) t) (given (row_to k j) t p)) (given (row_to k j) t p))

  keeps_visits : (i k j : ℕ) (t : Course) → P t → P (visits i k j t)
  unfolding visits
  keeps_visits i k zero t p = p
  keeps_visits i k (suc j) t p = keeps_visit i k j (visits i k j t) (keeps_visits i k j t p)

  keeps_turn : (i : ℕ) (t : Course) → P t → P (turn i t)
  unfolding turn
  keeps_turn i t p =
      keeps_handed (λ k. visits i k t.world.n) t (give (waited_at i) t)
      (λ k. keeps_visits i k t.world.n (give (waited_at i) t) (given (waited_at i) t p)) (given (waited_at i) t p)

  keeps_turns : (i : ℕ) (t : Course) → P t → P (turns i t)
  unfolding turns
  keeps_turns zero t p = p
  keeps_turns (suc i) t p = keeps_turn i (turns i t) (keeps_turns i t p)

  keeps_rounds : (k : ℕ) (t : Course) → P t → P (rounds k t)
  unfolding rounds in_turn
  keeps_rounds zero t p = p
  keeps_rounds (suc k) t p = keeps_turns (rounds k t).world.n (rounds k t) (keeps_rounds k t p)

-- THEOREM 1
pub rounds_are_calls : RoundsAreCalls
unfolding three_rounds
rounds_are_calls w s = keeps_rounds (IsRun w s) (run_given w s) _ (set_out w s) (run-set_out w s)

-- A COURSE THAT GOES ON, from world o and store s: every call so far was accepted
pub record Going (o : World) (s : List ℕ) (t : Course) : Type 0 where
  pub fine : Fine o t.world t.store
  pub is-run : IsRun o s t
  pub accepted : AllAccepted o s (asks_of t.commands)

-- a leg of it: what is seen grows, the rows that were there stay, and so many events and rows are the most that it costs
pub record Leg (o : World) (t u : Course) (e r : ℕ) : Type 0 where
  pub grows : Grows o t.world u.world
  pub events : length u.commands ≤ length t.commands + e
  pub rows : u.world.rows ≤ t.world.rows + r
  pub rows_grow : t.world.rows ≤ u.world.rows
  pub rows_stay : (k : ℕ) → k < t.world.rows → get_row u.store k ≡ get_row t.store k

pub leg-none : (o : World) (t : Course) → Leg o t t 0 0
leg-none o t =
    record {
      grows = grows_none o t.world;
      events = omega arith;
      rows = omega arith;
      rows_grow = omega arith;
      rows_stay = λ k h. refl;
    }

pub leg-then : {o : World} (t u v : Course) {a b c d : ℕ} → Leg o t u a b → Leg o u v c d → Leg o t v (a + c) (b + d)
leg-then t u v p q =
    record {
      grows = grows_then t.world u.world v.world p.grows q.grows;
      events = omega (arith, p.events, q.events);
      rows = omega (arith, p.rows, q.rows);
      rows_grow = omega (arith, p.rows_grow, q.rows_grow);
      rows_stay = λ k h. q.rows_stay k (omega (arith, h, p.rows_grow)) ∙ p.rows_stay k h;
    }

pub leg-most : {o : World} (t u : Course) {a b : ℕ} (c d : ℕ) → a ≤ c → b ≤ d → Leg o t u a b → Leg o t u c d
leg-most t u c d p q l =
    record {
      grows = l.grows;
      events = omega (arith, l.events, p);
      rows = omega (arith, l.rows, q);
      rows_grow = l.rows_grow;
      rows_stay = l.rows_stay;
    }

-- one command more: an accepted move
module _ (o : World) (s : List ℕ) (t : Course) (going : Going o s t) (c : Command) (own : ℕ) (m : Move)
    (moved : Went o t.world t.store own m (call_of t.world t.store (ask_of c))) where
  pub goes_on : Going o s (give c t)
  unfolding give
  goes_on =
      record {
        fine = moved.fine;
        is-run = run_given o s c t going.is-run;
        accepted = accepted_given o s c t going.is-run going.accepted moved.accepted;
      }

  one_more : length (t.commands ++ (c ∷ [])) ≡ length t.commands + 1
  one_more = length-append t.commands (c ∷ [])

  pub leg-silent : m.step.row.kind ≡ 0 → Leg o t (give c t) 1 0
  unfolding give
  leg-silent none =
      record {
        grows = moved.grows;
        events = omega (arith, one_more);
        rows = omega (arith, moved.silent none);
        rows_grow = omega (arith, moved.silent none);
        rows_stay = moved.rows_stay;
      }

  pub leg-sent : (m.step.row.kind ≡ 0 → ⊥) → Leg o t (give c t) 1 1
  unfolding give
  leg-sent some =
      record {
        grows = moved.grows;
        events = omega (arith, one_more);
        rows = omega (arith, moved.sent some);
        rows_grow = omega (arith, moved.sent some);
        rows_stay = moved.rows_stay;
      }
