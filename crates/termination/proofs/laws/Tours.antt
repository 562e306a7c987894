-- All of a turn's visits.
use Prim.Native.Nat.{ℕ, zero, suc, ◌+◌, ◌-◌, ◌*◌, ◌≤◌, ◌<◌}
use Rattle.std.specs.Prelude.{List, ◌≡◌, refl, eqb}
use Rattle.std.proofs.Common.{ap, sym, ◌∙◌, eq-eqb, ne_eqb}
use Rattle.std.proofs.Math.Path.{subst}
use native.Mathlib.Omega.{arith}
use Rattle.choice.specs.Choice.{pick}
use Rattle.choice.specs.laws.Cases.{by_equal}
use Rattle.row.specs.declared.Row.{Row}
use Rattle.row.specs.Rows.{get_row}
use Rattle.world.specs.declared.World.{World}
use Rattle.world.specs.Sizes.{max_rows}
use Rattle.termination.specs.Schedule.{Course, visit, visits}
use Rattle.termination.proofs.laws.Fine.{code_at, entry_at}
use Rattle.termination.proofs.laws.Truths.{Open}
use Rattle.termination.proofs.laws.Courses.{Going, Leg, leg-none, leg-then, leg-most}
use Rattle.termination.proofs.laws.Visits.{Calling, Visited, visited}

-- how many sites below a number are not site i
unfoldable pub others : ℕ → ℕ → ℕ
others i zero = 0
others i (suc j) = others i j + pick (eqb j i) 0 1

others-here : (i j : ℕ) → j ≡ i → others i (suc j) ≡ others i j
unfolding others
others-here i j e = rw (eq-eqb j i e) (omega arith)

others-there : (i j : ℕ) → (j ≡ i → ⊥) → others i (suc j) ≡ suc (others i j)
unfolding others
others-there i j e = rw (ne_eqb j i e) (omega arith)

others-before : (i j : ℕ) → j ≤ i → others i j ≡ j
unfolding others
others-before i zero h = refl
others-before i (suc j) h = others-there i j (λ e. omega (arith, h, e)) ∙ ap suc (others-before i j (omega (arith, h)))

-- all but one
pub others-all : (i n : ℕ) → i < n → others i n + 1 ≡ n
others-all i zero h = absurd (omega (arith, h))
others-all i (suc j) h =
    by_equal j i
    (λ e. omega (arith, others-here i j e, others-before i j (omega (arith, e))))
    (λ e. omega (arith, others-there i j e, others-all i j (omega (arith, h, e))))

-- what the visits to the sites below c leave
pub record Toured (o : World) (s : List ℕ) (i : ℕ) (t u : Course) (row : Row) (c : ℕ) : Type 0 where
  pub going : Going o s u
  pub leg : Leg o t u (2 * others i c) (others i c)
  pub group : (row.kind ≡ 1 → ⊥) → (j : ℕ) → j < c → (j ≡ i → ⊥) → 2 ≤ code_at u.world j
  pub known : (row.kind ≡ 1 → ⊥) → (j : ℕ) → j < c → (j ≡ i → ⊥) → 2 ≤ entry_at u.world i j
  pub outcome : row.kind ≡ 6 → (j : ℕ) → j < c → (j ≡ i → ⊥) → 4 ≤ code_at u.world j
  pub quiet : (row.kind ≡ 1 → ⊥) → Open o t.world → Open o u.world

module _ (o : World) (s : List ℕ) (i : ℕ) (lead : i < o.n) (t : Course) (start : Going o s t) (k : ℕ) (there : k < t.world.rows)
    (calls : Calling o i (get_row t.store k)) where
  abbrev row : Row
  row = get_row t.store k

  abbrev After : ℕ → Type 0
  After c = Toured o s i t (visits i k c t) row c

  none_yet : After zero
  unfolding visits others
  none_yet =
      record {
        going = start;
        leg = leg-none o t;
        group = λ _ j h. absurd (omega (arith, h));
        known = λ _ j h. absurd (omega (arith, h));
        outcome = λ _ j h. absurd (omega (arith, h));
        quiet = λ _ none. none;
      }

  -- site i is passed over
  pass-is : (c : ℕ) → c ≡ i → visits i k (suc c) t ≡ visits i k c t
  unfolding visits visit
  pass-is c e = rw (eq-eqb c i e)

  passed : (c : ℕ) → c ≡ i → After c → After (suc c)
  passed c e u =
      let fewer : (j : ℕ) → j < suc c → (j ≡ i → ⊥) → j < c = λ j h other. let apart : j ≡ c → ⊥ = λ q. other (q ∙ e) in omega (arith, h, apart) in
      let same : others i c ≡ others i (suc c) = sym (others-here i c e) in
      subst (λ v. Toured o s i t v row (suc c)) (sym (pass-is c e))
      (record {
        going = u.going;
        leg = leg-most t (visits i k c t) (2 * others i (suc c)) (others i (suc c)) (omega (arith, same)) (omega (arith, same)) u.leg;
        group = λ p j h other. u.group p j (fewer j h other) other;
        known = λ p j h other. u.known p j (fewer j h other) other;
        outcome = λ p j h other. u.outcome p j (fewer j h other) other;
        quiet = u.quiet;
      })

  -- another site is visited
  visit-next : (c : ℕ) → (c ≡ i → ⊥) → c < o.n → t.world.rows + others i (suc c) ≤ max_rows → After c → Visited o s i (visits i k c t) (visits i k (suc c) t) row c
  unfolding visits
  visit-next c other below free u =
      let same : others i (suc c) ≡ suc (others i c) = others-there i c other in
      let stay : get_row (visits i k c t).store k ≡ row = u.leg.rows_stay k there in
      subst (λ r. Visited o s i (visits i k c t) (visit i k c (visits i k c t)) r c) stay
      (visited o s i lead (visits i k c t) u.going k (omega (arith, there, u.leg.rows_grow)) (subst (Calling o i) (sym stay) calls) c below other
      (omega (arith, free, same, u.leg.rows)))

  visited-next : (c : ℕ) → (c ≡ i → ⊥) → After c → c < o.n → Visited o s i (visits i k c t) (visits i k (suc c) t) row c → After (suc c)
  visited-next c other u below v =
      let same : others i (suc c) ≡ suc (others i c) = others-there i c other in
      record {
        going = v.going;
        leg =
            leg-most t (visits i k (suc c) t) (2 * others i (suc c)) (others i (suc c)) (omega (arith, same)) (omega (arith, same))
            (leg-then t (visits i k c t) (visits i k (suc c) t) u.leg v.leg);
        group = λ p j h unlike.
            by_equal j c (λ e. subst (λ x. 2 ≤ code_at (visits i k (suc c) t).world x) (sym e) (v.group p))
            (λ e. omega (arith, u.group p j (omega (arith, h, e)) unlike, (v.leg.grows.codes j (omega (arith, h, below))).grows));
        known = λ p j h unlike.
            by_equal j c (λ e. subst (λ x. 2 ≤ entry_at (visits i k (suc c) t).world i x) (sym e) (v.known p))
            (λ e. omega (arith, u.known p j (omega (arith, h, e)) unlike, v.leg.grows.entries i j lead (omega (arith, h, below)) unlike));
        outcome = λ p j h unlike.
            by_equal j c (λ e. subst (λ x. 4 ≤ code_at (visits i k (suc c) t).world x) (sym e) (v.outcome p))
            (λ e. omega (arith, u.outcome p j (omega (arith, h, e)) unlike, (v.leg.grows.codes j (omega (arith, h, below))).grows));
        quiet = λ p none. v.quiet p (u.quiet p none);
      }

  fewer-others : (c : ℕ) → others i c ≤ others i (suc c)
  unfolding others
  fewer-others c = omega arith

  pub toured : (c : ℕ) → c ≤ o.n → t.world.rows + others i c ≤ max_rows → After c
  toured zero h free = none_yet
  toured (suc c) h free =
      let u : After c = toured c (omega (arith, h)) (omega (arith, free, fewer-others c)) in
      by_equal c i (λ e. passed c e u) (λ e. visited-next c e u (omega (arith, h)) (visit-next c e (omega (arith, h)) free u))
