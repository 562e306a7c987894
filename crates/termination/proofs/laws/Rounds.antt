-- A round, and what the first two rounds lead to.
use Prim.Native.Nat.{ℕ, zero, suc, ◌+◌, ◌-◌, ◌*◌, ◌≤◌, ◌<◌}
use Rattle.std.specs.Prelude.{List, ◌≡◌}
use Rattle.std.proofs.Common.{sym, ◌∙◌, arith}
use Rattle.std.proofs.Math.Path.{subst}
use Rattle.std.proofs.Math.Nat.{suc-mul}
use Rattle.choice.specs.laws.Cases.{by_equal}
use Rattle.world.specs.declared.World.{World}
use Rattle.world.specs.Sizes.{max_rows}
use Rattle.world.specs.Worlds.{site_of}
use Rattle.termination.specs.Schedule.{Course, turn, turns, in_turn}
use Rattle.termination.proofs.laws.Timeouts.{Ready}
use Rattle.termination.proofs.laws.Fine.{Grows, code_at, entry_at}
use Rattle.termination.proofs.laws.Courses.{Going, Leg, leg-none, leg-then, leg-most}
use Rattle.termination.proofs.laws.OneTurn.{Taken, taken}

-- a course and a leg that led to it, with what holds there
pub record Led (o : World) (s : List ℕ) (t u : Course) (e r : ℕ) (P : Course → Type 0) : Type 0 where
  pub going : Going o s u
  pub leg : Leg o t u e r
  pub holds : P u

-- what one turn after the other leads to
module _ (o : World) (s : List ℕ) (t : Course) (start : Going o s t) (P : ℕ → Course → Type 0) (first : P 0 t)
    (next : (c : ℕ) (u : Course) → c < o.n → Going o s u → Grows o t.world u.world → P c u → Taken o s c u (turn c u) → P (suc c) (turn c u)) where
  abbrev After : ℕ → Type 0
  After c = Led o s t (turns c t) (c * (2 * o.n - 1)) (c * o.n) (P c)

  none_yet : After zero
  unfolding turns
  none_yet =
      record {
        going = start;
        leg = leg-most t t (0 * (2 * o.n - 1)) (0 * o.n) (omega arith) (omega arith) (leg-none o t);
        holds = first;
      }

  one_more : (c : ℕ) → c < o.n → After c → Taken o s c (turns c t) (turns (suc c) t) → After (suc c)
  unfolding turns
  one_more c below u v =
      record {
        going = v.going;
        leg =
            leg-most t (turns (suc c) t) (suc c * (2 * o.n - 1)) (suc c * o.n)
            (omega (arith, suc-mul c (2 * o.n - 1))) (omega (arith, suc-mul c o.n))
            (leg-then t (turns c t) (turns (suc c) t) u.leg v.leg);
        holds = next c (turns c t) below u.going u.leg.grows u.holds v;
      }

  turns_lead : (c : ℕ) → c ≤ o.n → t.world.rows + c * o.n ≤ max_rows → After c
  unfolding turns
  turns_lead zero h free = none_yet
  turns_lead (suc c) h free =
      let more_rows : suc c * o.n ≡ c * o.n + o.n = suc-mul c o.n in
      let u : After c = turns_lead c (omega (arith, h)) (omega (arith, free, more_rows)) in
      one_more c (omega (arith, h)) u (taken o s c (omega (arith, h)) (turns c t) u.going (omega (arith, free, more_rows, u.leg.rows)))

  pub round_leads :
      t.world.rows + o.n * o.n ≤ max_rows →
      Led o s t (in_turn t) (o.n * (2 * o.n - 1)) (o.n * o.n) (P o.n)
  unfolding in_turn
  round_leads free =
      subst (λ x. Led o s t (turns x t) (o.n * (2 * o.n - 1)) (o.n * o.n) (P o.n)) (sym start.fine.sizes.same-n)
      (turns_lead o.n (omega arith) free)

-- THE FIRST ROUND: all sites have prepared, or more, and lead as long as they have no outcome

pub ready-grows : {o w v : World} (i : ℕ) → i < o.n → Grows o w v → Ready (site_of w i) → Ready (site_of v i)
ready-grows i h g r =
    record {
      some = omega (arith, r.some, (g.codes i h).grows);
      leads = λ low. g.roles i h (r.leads (omega (arith, low, (g.codes i h).grows)));
    }

-- the sites below c are ready
pub record ReadyTo (c : ℕ) (u : Course) : Type 0 where
  pub each : (i : ℕ) → i < c → Ready (site_of u.world i)

pub first_round : (o : World) (s : List ℕ) (t : Course) → Going o s t → t.world.rows + o.n * o.n ≤ max_rows →
    Led o s t (in_turn t) (o.n * (2 * o.n - 1)) (o.n * o.n) (ReadyTo o.n)
first_round o s t start free =
    round_leads o s t start ReadyTo (record { each = λ i h. absurd (omega (arith, h)) })
    (λ c u below _ _ p v. record {
      each = λ i h.
          by_equal i c
          (λ e. subst (λ x. Ready (site_of (turn c u).world x)) (sym e) v.ready)
          (λ e. ready-grows i (omega (arith, h, below)) v.leg.grows (p.each i (omega (arith, h, e))));
    })
    free

-- THE SECOND: all are in a group or have an outcome, and know it of each other

-- it is so of all sites, and the sites below c know it
pub record GroupedTo (o : World) (c : ℕ) (u : Course) : Type 0 where
  pub group : 0 < c → (j : ℕ) → j < o.n → 2 ≤ code_at u.world j
  pub known : (i j : ℕ) → i < c → j < o.n → (j ≡ i → ⊥) → 2 ≤ entry_at u.world i j

pub second_round : (o : World) (s : List ℕ) (t : Course) → Going o s t → ReadyTo o.n t → t.world.rows + o.n * o.n ≤ max_rows →
    Led o s t (in_turn t) (o.n * (2 * o.n - 1)) (o.n * o.n) (GroupedTo o o.n)
second_round o s t start ready free =
    round_leads o s t start (GroupedTo o)
    (record { group = λ h. absurd (omega (arith, h)); known = λ i j h. absurd (omega (arith, h)) })
    (λ c u below _ grown p v. let r : Ready (site_of u.world c) = ready-grows c below grown (ready.each c below) in
    record {
      group = λ _. v.group r;
      known = λ i j h l other.
          by_equal i c
          (λ e. subst (λ x. 2 ≤ entry_at (turn c u).world x j) (sym e) (v.known r j l (λ q. other (q ∙ sym e))))
          (λ e. omega (arith, p.known i j (omega (arith, h, e)) l other, v.leg.grows.entries i j (omega (arith, h, below)) l other));
    })
    free
