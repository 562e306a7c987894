-- Laws of the news: how many entries rise, whatever the order.
use Prim.Native.Nat.{ℕ, zero, suc, ◌+◌, ◌≤◌, ◌<◌}
use Rattle.std.specs.Prelude.{true, ◌≡◌, ltb, eqb, get_or}
use mathlib.Core.List.{List, [], ◌∷◌}
use Rattle.std.proofs.Math.Path.{refl, ap, sym, subst}
use Rattle.std.proofs.Common.{◌∙◌, eq-eqb, ne_eqb, ltb-true, ltb-false}
use native.Mathlib.Omega.{arith}
use Rattle.choice.specs.Choice.{pick}
use Rattle.choice.specs.laws.ChoiceLaws.{pick_ind}
use Rattle.choice.specs.laws.Cases.{by_test, by_equal}
use Rattle.choice.specs.Places.{sum_to}
use Rattle.choice.specs.laws.Stores.{sum_same}
use Rattle.merging.specs.declared.Merged.{Merged}
use Rattle.merging.specs.Merging.{rises, take_entry, take_entries, merging_in_order, is_other, merging, takes, TakesOthersOnce}
use Rattle.merging.specs.laws.News.{gain, share, risen}
use Rattle.merging.proofs.Orders.{other-own, other-below, other_unlike, takes-here, takes-there, sender_first-once}
use Rattle.merging.proofs.MergeLaws.{taken-other, none-taken}

-- a sum over an order, and over its takings of site k
module _ (g : ℕ → ℕ) where
  unfoldable sum_over : List ℕ → ℕ
  sum_over [] = 0
  sum_over (j ∷ order) = g j + sum_over order

  unfoldable sum_at : List ℕ → ℕ → ℕ
  sum_at [] k = 0
  sum_at (j ∷ order) k = pick (eqb k j) (g j) 0 + sum_at order k

  at_here : (k j : ℕ) (order : List ℕ) → k ≡ j → sum_at (j ∷ order) k ≡ g j + sum_at order k
  unfolding sum_at
  at_here k j order e = rw (eq-eqb k j e)

  at_there : (k j : ℕ) (order : List ℕ) → (k ≡ j → ⊥) → sum_at (j ∷ order) k ≡ sum_at order k
  unfolding sum_at
  at_there k j order e = rw (ne_eqb k j e) (omega arith)

  at_none : (k : ℕ) (order : List ℕ) → takes k order ≡ 0 → sum_at order k ≡ 0
  unfolding sum_at
  at_none k [] none = refl
  at_none k (j ∷ order) none =
      by_equal k j
      (λ e. absurd (omega (arith, takes-here k j order e)))
      (λ e. at_there k j order e ∙ at_none k order (sym (takes-there k j order e) ∙ none))

  at_once : (k : ℕ) (order : List ℕ) → takes k order ≡ 1 → sum_at order k ≡ g k
  unfolding takes
  at_once k [] once = absurd (omega arith)
  at_once k (j ∷ order) once =
      by_equal k j
      (λ e. omega (arith, at_here k j order e, at_none k order (omega (arith, takes-here k j order e)), ap g e))
      (λ e. at_there k j order e ∙ at_once k order (sym (takes-there k j order e) ∙ once))

  below_off : (m j : ℕ) (order : List ℕ) → m ≤ j → sum_to (sum_at (j ∷ order)) m ≡ sum_to (sum_at order) m
  unfolding sum_to
  below_off zero j order h = refl
  below_off (suc m) j order h = omega (arith, below_off m j order (omega arith), at_there m j order (λ e. omega arith))

  below_on : (m j : ℕ) (order : List ℕ) → j < m → sum_to (sum_at (j ∷ order)) m ≡ g j + sum_to (sum_at order) m
  unfolding sum_to
  below_on zero j order h = absurd (omega arith)
  below_on (suc m) j order h =
      by_equal m j
      (λ e. omega (arith, below_off m j order (omega arith), at_here m j order e))
      (λ e. omega (arith, below_on m j order (omega arith), at_there m j order e))

  below_none : (m : ℕ) → sum_to (sum_at []) m ≡ 0
  unfolding sum_to sum_at
  below_none zero = refl
  below_none (suc m) = omega (arith, below_none m)

  -- an order that takes no site from m up
  sum_by-site : (m : ℕ) (order : List ℕ) → ((k : ℕ) → m ≤ k → takes k order ≡ 0) → sum_over order ≡ sum_to (sum_at order) m
  unfolding sum_over takes
  sum_by-site m [] none = sym (below_none m)
  sum_by-site m (j ∷ order) none =
      by_test (ltb j m)
      (λ h. omega (arith, below_on m j order (ltb-true j m h), sum_by-site m order (λ k high. omega (arith, none k high))))
      (λ h. absurd (omega (arith, none j (ltb-false j m h), takes-here j j order refl)))

-- entries that are taken once at most add what they would at the beginning
taken-news :
    (order said : List ℕ) (m : Merged) (v : List ℕ) → ((k : ℕ) → takes k order ≤ 1) →
    ((k : ℕ) → 1 ≤ takes k order → get_or m.codes k 0 ≡ get_or v k 0) →
    (take_entries said order m).news ≡ m.news + sum_over (gain said v) order
unfolding take_entries take_entry sum_over takes gain
taken-news [] said m v few held = omega arith
taken-news (j ∷ order) said m v few held =
    omega (arith, taken-news order said (take_entry said j m) v fewer later, this)
  where
    fewer : (k : ℕ) → takes k order ≤ 1
    fewer k = omega (arith, few k)

    later : (k : ℕ) → 1 ≤ takes k order → get_or (take_entry said j m).codes k 0 ≡ get_or v k 0
    later k some =
        by_equal k j
        (λ e. absurd (omega (arith, few k, takes-here k j order e)))
        (λ e. taken-other said j m k e ∙ held k (rw (takes-there k j order e) some))

    this : (take_entry said j m).news ≡ m.news + gain said v j
    this = ap (λ x. m.news + pick (rises x (get_or said j 0)) 1 0) (held j (omega (arith, takes-here j j order refl)))

-- THE NEWS of any order that takes each other site once
module _ {n own : ℕ} {order : List ℕ} (once : TakesOthersOnce n own order) where
  others-once : (k : ℕ) → is_other n own k ≡ true → takes k order ≡ 1
  others-once k e = omega (arith, once.others k (other-below n own k e) (other_unlike n own k e))

  taken-share : (said v : List ℕ) (k : ℕ) → sum_at (gain said v) order k ≡ share n own said v k
  unfolding share
  taken-share said v k =
      pick_ind (λ x. sum_at (gain said v) order k ≡ x) (is_other n own k) (gain said v k) 0
      (λ e. at_once (gain said v) k order (others-once k e)) (λ e. at_none (gain said v) k order (none-taken once k e))

  once-at_most : (k : ℕ) → takes k order ≤ 1
  once-at_most k =
      by_test (is_other n own k)
      (λ e. omega (arith, others-once k e)) (λ e. omega (arith, none-taken once k e))

  pub merged_news : (said v : List ℕ) (m : ℕ) → n ≤ m → (merging_in_order order said v).news ≡ risen m n own said v
  unfolding merging_in_order risen
  merged_news said v m high =
      omega (
        arith,
        taken-news order said (record { codes = v; news = 0 }) v once-at_most (λ k _. refl),
        sum_by-site (gain said v) m order (λ k h. once.none-beyond k (omega arith)),
        sum_same (sum_at (gain said v) order) (share n own said v) m (λ k _. taken-share said v k),
      )

pub merging-news :
    (n own sender : ℕ) (said v : List ℕ) (m : ℕ) → n ≤ m → (merging n own sender said v).news ≡ risen m n own said v
unfolding merging
merging-news n own sender said v m high = merged_news (sender_first-once n own sender) said v m high

-- one entry adds at most one
pub share-small : (n own : ℕ) (said v : List ℕ) (k : ℕ) → share n own said v k ≤ 1
unfolding share gain
share-small n own said v k =
    pick_ind (λ x. x ≤ 1) (is_other n own k) (gain said v k) 0
    (λ _. pick_ind (λ x. x ≤ 1) (rises (get_or v k 0) (get_or said k 0)) 1 0 (λ _. omega arith) (λ _. omega arith)) (λ _. omega arith)

risen-few : (m n own : ℕ) (said v : List ℕ) → risen m n own said v ≤ m
unfolding risen sum_to
risen-few zero n own said v = omega arith
risen-few (suc m) n own said v = omega (arith, share-small n own said v m, risen-few m n own said v)

-- at most one for each site but the receiver
pub risen-others : (m n own : ℕ) (said v : List ℕ) → own < m → risen m n own said v + 1 ≤ m
unfolding risen sum_to share
risen-others zero n own said v below = absurd (omega arith)
risen-others (suc m) n own said v below =
    by_equal own m
    (λ e. subst (λ x. risen (suc m) n x said v + 1 ≤ suc m) (sym e) (rw other-own (omega (arith, risen-few m n m said v))))
    (λ e. omega (arith, share-small n own said v m, risen-others m n own said v (omega arith)))
