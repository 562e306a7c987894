-- The laws of the choice by a test, by which a branch of the code meets it.
use Rattle.std.specs.Prelude.{ℕ, ◌<◌, Bool, true, false, List, ◌≡◌, refl, eqb, length, get_or, set}
use Rattle.std.proofs.lemmas.Bool.{false≢true, lt-leb, eqb-false}
use Rattle.std.proofs.Common.{sym, ap, subst, ◌∙◌, get_or-set_same, get_or-set_other, lt-ltb, le-ltb, le-leb, eq-eqb, ne_eqb, eqb-true}
use Rattle.choice.specs.Choice.{pick, both}

pub pick-on {ℓ} : {A : Type ℓ} (t : Bool) (x y : A) → t ≡ true → pick t x y ≡ x
pick-on t x y e = rw e

pub pick_off {ℓ} : {A : Type ℓ} (t : Bool) (x y : A) → t ≡ false → pick t x y ≡ y
pick_off t x y e = rw e

-- a claim of a choice, shown in its two cases, each with what the test said
pub pick_ind {ℓ κ} : {A : Type ℓ} (P : A → Type κ) (t : Bool) (a b : A) → (t ≡ true → P a) → (t ≡ false → P b) → P (pick t a b)
pick_ind P true a b f g = f refl
pick_ind P false a b f g = g refl

-- both tests hold where each does, and only there
pub both-on : (a b : Bool) → a ≡ true → b ≡ true → both a b ≡ true
both-on a b p q = rw (p, q)

pub both_first : (a b : Bool) → both a b ≡ true → a ≡ true
both_first true b e = refl
both_first false b e = e

pub both-second : (a b : Bool) → both a b ≡ true → b ≡ true
both-second true b e = e
both-second false b e = absurd (false≢true e)

pub both_off : (a b : Bool) → b ≡ false → both a b ≡ false
both_off true b e = e
both_off false b e = refl

-- a claim of an entry after a store, shown for the place stored at and for any other
pub set_ind {ℓ} :
    {A : Type ℓ} (P : A → Type 0) (l : List A) (i j : ℕ) (a d : A) → i < length l → (j ≡ i → P a) →
    ((j ≡ i → ⊥) → P (get_or l j d)) → P (get_or (set l i a) j d)
set_ind P l i j a d room f g = go (eqb j i) refl
  where
    go : (t : Bool) → eqb j i ≡ t → P (get_or (set l i a) j d)
    go true e =
        subst P (sym (ap (λ k. get_or (set l i a) k d) (eqb-true j i e) ∙ get_or-set_same l i a d room)) (f (eqb-true j i e))
    go false e = subst P (sym (get_or-set_other l i j a d (eqb-false j i e))) (g (eqb-false j i e))

-- the laws by which a test that the code has made settles a definition's test
pub ruleset tests = (lt-ltb, le-ltb, le-leb, lt-leb, eq-eqb, ne_eqb, pick-on, pick_off)
