-- How much the sites know of each other, by the levels of their entries: a delivery's news is knowledge gained, and there is only so much to know.
use Prim.Native.Nat.{ℕ, zero, suc, ◌+◌, ◌-◌, ◌*◌, ◌≤◌, ◌<◌}
use Rattle.std.specs.Prelude.{List, ◌≡◌, ltb, eqb}
use Rattle.std.proofs.Math.Path.{refl, ap, sym}
use Rattle.std.proofs.Common.{◌∙◌, suc-mul}
use native.Mathlib.Omega.{arith}
use Rattle.std.proofs.Math.ListN.{get_or}
use borrow.Author.Tests.{ltb-true, eq-eqb, ne_eqb}
use Rattle.choice.specs.Choice.{pick}
use Rattle.choice.specs.Places.{sum_to}
use Rattle.choice.specs.laws.Cases.{by_test, by_equal}
use Rattle.choice.specs.laws.ChoiceLaws.{pick_ind, pick-on, pick_off}
use Rattle.choice.specs.laws.Stores.{sum_but}
use Rattle.vector.specs.Codes.{level}
use Rattle.merging.specs.Merging.{rises, merge_entry}
use Rattle.merging.specs.laws.News.{risen, share, gain}
use Rattle.merging.proofs.Orders.{other-own, other-on}
use Rattle.world.specs.declared.World.{World}
use Rattle.world.specs.Worlds.{site_of}

-- what an entry of a vector of site `own` tells: its level, and nothing at its own place
unfoldable pub level_at : ℕ → List ℕ → ℕ → ℕ
level_at own v k = pick (eqb k own) 0 (level (get_or v k 0))

-- all entries below a number
unfoldable pub known : ℕ → List ℕ → ℕ → ℕ
known own v m = sum_to (level_at own v) m

-- all that the n sites of a world know
unfoldable pub known_in : ℕ → World → ℕ
known_in n w = sum_to (λ i. known i (site_of w i).codes n) n

module _ (own : ℕ) where
  level-own : (v : List ℕ) (k : ℕ) → k ≡ own → level_at own v k ≡ 0
  unfolding level_at
  level-own v k e = rw (eq-eqb k own e)

  level-other : (v : List ℕ) (k : ℕ) → (k ≡ own → ⊥) → level_at own v k ≡ level (get_or v k 0)
  unfolding level_at
  level-other v k e = rw (ne_eqb k own e)

  -- THERE IS ONLY SO MUCH TO KNOW: three levels of each other site

  level-few : (v : List ℕ) (k : ℕ) → level_at own v k ≤ 3
  unfolding level_at level
  level-few v k =
      let c : ℕ = get_or v k 0 in
      pick_ind (λ x. x ≤ 3) (eqb k own) 0 (level c) (λ _. omega arith)
      (λ _. pick_ind (λ x. x ≤ 3) (ltb c 2) c (pick (ltb c 4) 2 3) (λ e. omega (arith, ltb-true c 2 e))
      (λ _. pick_ind (λ x. x ≤ 3) (ltb c 4) 2 3 (λ _. omega arith) (λ _. omega arith)))

  known-few : (v : List ℕ) (m : ℕ) → known own v m ≤ 3 * m
  unfolding known sum_to
  known-few v zero = omega arith
  known-few v (suc m) = omega (arith, known-few v m, level-few v m)

  known-others : (v : List ℕ) (m : ℕ) → own < m → known own v m + 3 ≤ 3 * m
  unfolding known sum_to
  known-others v zero below = absurd (omega (arith, below))
  known-others v (suc m) below =
      by_equal m own
      (λ e. omega (arith, known-few v m, level-own v m e))
      (λ e. omega (arith, known-others v m (omega (arith, below, e)), level-few v m))

  -- A DELIVERY'S NEWS is knowledge gained

  -- of one entry
  level_merged : (held said : ℕ) → level held + pick (rises held said) 1 0 ≤ level (merge_entry held said)
  unfolding merge_entry rises
  level_merged held said =
      by_test (ltb (level held) (level said))
      (λ e. rw e (omega (arith, ltb-true (level held) (level said) e))) (λ e. rw e (omega arith))

  entry_gained : (n : ℕ) (said v u : List ℕ) (k : ℕ) → k < n → ((k ≡ own → ⊥) → get_or u k 0 ≡ merge_entry (get_or v k 0) (get_or said k 0)) →
      share n own said v k + level_at own v k ≤ level_at own u k
  unfolding share gain
  entry_gained n said v u k below merged =
      by_equal k own
      (λ e. rw (e, other-own n own) (omega (arith, level-own v own refl)))
      (λ e. rw (other-on n own k below e)
      (omega (
        arith,
        level-other v k e,
        level-other u k e,
        ap level (merged e),
        level_merged (get_or v k 0) (get_or said k 0),
      )))

  pub news-known : (n : ℕ) (said v u : List ℕ) (m : ℕ) → m ≤ n →
      ((k : ℕ) → k < m → (k ≡ own → ⊥) → get_or u k 0 ≡ merge_entry (get_or v k 0) (get_or said k 0)) →
      risen m n own said v + known own v m ≤ known own u m
  unfolding risen known sum_to
  news-known n said v u zero few merged = omega arith
  news-known n said v u (suc m) few merged =
      omega (
        arith,
        news-known n said v u m (omega (arith, few)) (λ k h. merged k (omega (arith, h))),
        entry_gained n said v u m (omega (arith, few)) (merged m (omega arith)),
      )

  -- the same entries of others tell the same
  pub known_same : (v u : List ℕ) (m : ℕ) → ((k : ℕ) → k < m → (k ≡ own → ⊥) → get_or u k 0 ≡ get_or v k 0) → known own u m ≡ known own v m
  unfolding known sum_to
  known_same v u zero same = refl
  known_same v u (suc m) same =
      omega (arith, known_same v u m (λ k h. same k (omega (arith, h))), here)
    where
      here : level_at own u m ≡ level_at own v m
      here =
          by_equal m own
          (λ e. level-own u m e ∙ sym (level-own v m e))
          (λ e. level-other u m e ∙ ap level (same m (omega arith) e) ∙ sym (level-other v m e))

-- ALL SITES

-- values that are at most x, k times
sum_most : (f : ℕ → ℕ) (x k : ℕ) → ((i : ℕ) → i < k → f i ≤ x) → sum_to f k ≤ k * x
unfolding sum_to
sum_most f x zero each = omega arith
sum_most f x (suc k) each = omega (arith, sum_most f x k (λ i h. each i (omega (arith, h))), each k (omega arith), suc-mul k x)

-- three times as much, whatever it is taken times
pub thrice : (x y : ℕ) → x * (3 * y) ≡ 3 * (x * y)
thrice zero y = omega arith
thrice (suc x) y = omega (arith, thrice x y, suc-mul x (3 * y), suc-mul x y)

-- one site's vector in place of another
module _ (n own : ℕ) (w : World) (u : List ℕ) (inside : own < n) where
  swapped : ℕ → ℕ
  swapped i = pick (eqb i own) (known own u n) (known i (site_of w i).codes n)

  -- there is room for what it knows
  pub known-room : known_in n w + known own u n ≤ 3 * (n * (n - 1)) + known own (site_of w own).codes n
  unfolding known_in swapped
  known-room =
      omega (
        arith,
        sum_but (λ i. known i (site_of w i).codes n) swapped own n inside (λ j _ e. sym (pick_off (eqb j own) (known own u n) (known j (site_of w j).codes n) (ne_eqb j own e))),
        pick-on (eqb own own) (known own u n) (known own (site_of w own).codes n) (eq-eqb own own refl),
        sum_most swapped (3 * (n - 1)) n each,
        thrice n (n - 1),
      )
    where
      each : (i : ℕ) → i < n → swapped i ≤ 3 * (n - 1)
      each i h =
          pick_ind (λ x. x ≤ 3 * (n - 1)) (eqb i own) (known own u n) (known i (site_of w i).codes n)
          (λ _. omega (arith, known-others own u n inside)) (λ _. omega (arith, known-others i (site_of w i).codes n h))

  -- and a world in which only that vector is another knows so much
  pub known-moved : (w' : World) → (site_of w' own).codes ≡ u → ((j : ℕ) → (j ≡ own → ⊥) → site_of w' j ≡ site_of w j) →
      known_in n w + known own u n ≡ known_in n w' + known own (site_of w own).codes n
  unfolding known_in
  known-moved w' here there =
      omega (
        arith,
        sum_but (λ i. known i (site_of w i).codes n) (λ i. known i (site_of w' i).codes n) own n inside
            (λ j _ e. ap (λ s. known j s.codes n) (sym (there j e))),
        ap (λ v. known own v n) here,
      )
