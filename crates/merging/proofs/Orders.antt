-- Laws of orders: how often they take a site. The sender first and then the others is an order that takes each other site once.
use Rattle.std.specs.Prelude.{ℕ, zero, suc, ◌+◌, ◌≤◌, ◌<◌, Bool, true, false, List, [], ◌∷◌, ◌++◌, ◌≡◌, refl, ltb, eqb}
use Rattle.std.proofs.lemmas.Bool.{false≢true, eqb-false}
use Rattle.std.proofs.Common.{ap, sym, ◌∙◌, arith, eq-eqb, ne_eqb, lt-ltb, le-ltb, ltb-true}
use Rattle.choice.specs.Choice.{pick, either}
use Rattle.choice.specs.laws.ChoiceLaws.{pick_ind, pick-on, pick_off}
use Rattle.choice.specs.laws.Cases.{by_equal}
use Rattle.merging.specs.Merging.{is_other, sites_but, sender_if_other, sender_first, takes, TakesOthersOnce}

-- another site is below n and not the receiver, and only such a site

pub other-on : (n own k : ℕ) → k < n → (k ≡ own → ⊥) → is_other n own k ≡ true
unfolding is_other
other-on n own k below e = rw (ne_eqb k own e, lt-ltb k n below)

pub other-own : (n own : ℕ) → is_other n own own ≡ false
unfolding is_other
other-own n own = rw (eq-eqb own own refl)

pub other-beyond : (n own k : ℕ) → n ≤ k → is_other n own k ≡ false
unfolding is_other
other-beyond n own k h = pick_ind (λ t. t ≡ false) (eqb k own) false (ltb k n) (λ _. refl) (λ _. le-ltb k n h)

pub other-below : (n own k : ℕ) → is_other n own k ≡ true → k < n
unfolding is_other
other-below n own k =
    pick_ind (λ t. t ≡ true → k < n) (eqb k own) false (ltb k n) (λ _ e. absurd (false≢true e)) (λ _ e. ltb-true k n e)

pub other_unlike : (n own k : ℕ) → is_other n own k ≡ true → k ≡ own → ⊥
unfolding is_other
other_unlike n own k =
    pick_ind (λ t. t ≡ true → k ≡ own → ⊥) (eqb k own) false (ltb k n)
    (λ _ e _. absurd (false≢true e)) (λ e _. eqb-false k own e)

-- how often: one more where the order begins with the site
pub takes-here : (k j : ℕ) (order : List ℕ) → k ≡ j → takes k (j ∷ order) ≡ takes k order + 1
unfolding takes
takes-here k j order e = rw (eq-eqb k j e) (omega arith)

pub takes-there : (k j : ℕ) (order : List ℕ) → (k ≡ j → ⊥) → takes k (j ∷ order) ≡ takes k order
unfolding takes
takes-there k j order e = rw (ne_eqb k j e) (omega arith)

takes-both : (k : ℕ) (a b : List ℕ) → takes k (a ++ b) ≡ takes k a + takes k b
unfolding takes
takes-both k [] b = omega arith
takes-both k (j ∷ a) b = omega (arith, takes-both k a b)

-- at most site j, so no other
takes_one : (k j : ℕ) (t : Bool) → (k ≡ j → ⊥) → takes k (pick t [] (j ∷ [])) ≡ 0
unfolding takes
takes_one k j t e = pick_ind (λ l. takes k l ≡ 0) t [] (j ∷ []) (λ _. refl) (λ _. takes-there k j [] e)

-- the sites below m but for two: none from m on, neither of the two, and any other once

but-beyond : (own sender m k : ℕ) → m ≤ k → takes k (sites_but own sender m) ≡ 0
unfolding sites_but takes
but-beyond own sender zero k h = refl
but-beyond own sender (suc m) k h =
    omega (
      arith,
      takes-both k (sites_but own sender m) (pick (either (eqb m own) (eqb m sender)) [] (m ∷ [])),
      but-beyond own sender m k (omega arith),
      takes_one k m (either (eqb m own) (eqb m sender)) (λ e. omega arith),
    )

but_neither :
    (own sender m k : ℕ) → either (eqb k own) (eqb k sender) ≡ true → takes k (sites_but own sender m) ≡ 0
unfolding sites_but takes
but_neither own sender zero k h = refl
but_neither own sender (suc m) k h =
    omega (
      arith,
      takes-both k (sites_but own sender m) (pick (either (eqb m own) (eqb m sender)) [] (m ∷ [])),
      but_neither own sender m k h,
      by_equal {P = takes k (pick (either (eqb m own) (eqb m sender)) [] (m ∷ [])) ≡ 0} k m
          (λ e. rw (pick-on (either (eqb m own) (eqb m sender)) [] (m ∷ []) (rw e at h)))
          (λ e. takes_one k m (either (eqb m own) (eqb m sender)) e),
    )

but-once :
    (own sender m k : ℕ) → either (eqb k own) (eqb k sender) ≡ false → k < m → takes k (sites_but own sender m) ≡ 1
unfolding sites_but takes
but-once own sender zero k h below = absurd (omega arith)
but-once own sender (suc m) k h below =
    takes-both k (sites_but own sender m) (pick (either (eqb m own) (eqb m sender)) [] (m ∷ []))
    ∙ by_equal k m
    (λ e. omega (
      arith,
      but-beyond own sender m k (omega arith),
      ap (takes k) (pick_off (either (eqb m own) (eqb m sender)) [] (m ∷ []) (rw e at h)) ∙ takes-here k m [] e,
    ))
    (λ e. omega (
      arith,
      but-once own sender m k h (omega arith),
      takes_one k m (either (eqb m own) (eqb m sender)) e,
    ))

-- the order's beginning
first_else : (n own sender k : ℕ) → (is_other n own sender ≡ true → k ≡ sender → ⊥) → takes k (sender_if_other n own sender) ≡ 0
unfolding takes sender_if_other
first_else n own sender k e =
    pick_ind (λ l. takes k l ≡ 0) (is_other n own sender) (sender ∷ []) [] (λ t. takes-there k sender [] (e t)) (λ _. refl)

first-once : (n own sender k : ℕ) → k < n → (k ≡ own → ⊥) → k ≡ sender → takes k (sender_if_other n own sender) ≡ 1
unfolding takes sender_if_other
first-once n own sender k below unlike e =
    ap (takes k) (pick-on (is_other n own sender) (sender ∷ []) [] (ap (is_other n own) (sym e) ∙ other-on n own k below unlike))
    ∙ takes-here k sender [] e

-- THE DEFINITION'S ORDER takes each other site once
pub sender_first-once : (n own sender : ℕ) → TakesOthersOnce n own (sender_first n own sender)
unfolding sender_first
sender_first-once n own sender =
    record {
      others = λ k below unlike.
          by_equal k sender
          (λ e. omega (
            arith,
            whole k,
            first-once n own sender k below unlike e,
            but_neither own sender n k (pick_ind (λ t. t ≡ true) (eqb k own) true (eqb k sender) (λ _. refl) (λ _. eq-eqb k sender e)),
          ))
          (λ e. omega (
            arith,
            whole k,
            first_else n own sender k (λ _. e),
            but-once own sender n k (rw (ne_eqb k own unlike, ne_eqb k sender e)) below,
          ));
      not_own =
          omega (
            arith,
            whole own,
            first_else n own sender own (λ t e. other_unlike n own sender t (sym e)),
            but_neither own sender n own (rw (eq-eqb own own refl)),
          );
      none-beyond = λ k h.
          omega (
            arith,
            whole k,
            first_else n own sender k (λ t e. omega (arith, other-below n own sender t)),
            but-beyond own sender n k h,
          );
    }
  where
    whole :
        (k : ℕ) → takes k (sender_first n own sender) ≡ takes k (sender_if_other n own sender) + takes k (sites_but own sender n)
    whole k = takes-both k (sender_if_other n own sender) (sites_but own sender n)
