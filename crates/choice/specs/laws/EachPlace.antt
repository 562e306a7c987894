-- What `all`, `fold` and `from_fn` make, said place by place, as the definitions are: F, which goes from one place to the next.
use Rattle.std.specs.Prelude.{ℕ, zero, suc, ◌+◌, ◌≤◌, ◌<◌, Bool, true, false, ◌&&◌, List, ◌≡◌, refl, length, get_or, take}
use Rattle.std.specs.List.{list_all, range_with_len, fold}
use Rattle.std.proofs.Common.{sym, ap, ◌∙◌, arith, add-one, zero-add}
use Rattle.std.proofs.Math.Seq.{take-length}
use Rattle.std.proofs.lemmas.List.FromFn.{length-range_with_len, get_or-range_with_len}
use Rattle.std.proofs.lemmas.List.Folds.{list_all_more}
use Rattle.std.proofs.lemmas.List.Sums.{fold_more}
use denote.Param.Members.{Mut, Called}
use Rattle.std.specs.Array.{IsFromFnResultFrom}
use Rattle.choice.specs.Choice.{both}
use Rattle.choice.specs.laws.Cases.{by_equal}

pub and_both : (a b : Bool) → (a && b) ≡ both a b
and_both true b = refl
and_both false b = refl

module _ {X Y : Type 0} (turn : Y → X → Y) (start : Y) (xs : List X) (d : X) (F : ℕ → Y)
    (none : F 0 ≡ start) (more : (k : ℕ) → k < length xs → F (suc k) ≡ turn (F k) (get_or xs k d)) where
  first_folded : (k : ℕ) → k ≤ length xs → fold turn start (take k xs) ≡ F k
  first_folded zero room = sym none
  first_folded (suc k) room =
      let one_more = rw add-one at (fold_more turn start xs k d (omega arith)) in
      rw (one_more, first_folded k (omega arith)) (sym (more k (omega arith)))

  pub fold_placed : (r : Y) → r ≡ fold turn start xs → r ≡ F (length xs)
  fold_placed r e = e ∙ sym (ap (fold turn start) (take-length xs)) ∙ first_folded (length xs) (omega arith)

module _ {X : Type 0} (test : X → Bool) (xs : List X) (d : X) (F : ℕ → Bool)
    (none : F 0 ≡ true) (more : (k : ℕ) → k < length xs → F (suc k) ≡ both (F k) (test (get_or xs k d))) where
  first_all : (k : ℕ) → k ≤ length xs → list_all test (take k xs) ≡ F k
  first_all zero room = sym none
  first_all (suc k) room =
      let one_more = rw add-one at (list_all_more test xs k d (omega arith)) in
      rw (one_more, first_all k (omega arith), more k (omega arith)) (and_both (F k) (test (get_or xs k d)))

  pub all_placed : (r : Bool) → r ≡ list_all test xs → r ≡ F (length xs)
  all_placed r e = e ∙ sym (ap (list_all test) (take-length xs)) ∙ first_all (length xs) (omega arith)

-- `all` over the numbers below n
pub all_numbered :
    (test : ℕ → Bool) (n : ℕ) (F : ℕ → Bool) (r : Bool) → F 0 ≡ true → ((k : ℕ) → k < n → F (suc k) ≡ both (F k) (test k)) →
    r ≡ list_all test (range_with_len 0 n) → r ≡ F n
all_numbered test n F r none more e =
    rw length-range_with_len at (all_placed test (range_with_len 0 n) 0 F none
    (λ k h. let low : k < n = rw length-range_with_len at h in rw (get_or-range_with_len, zero-add) (more k low)) r e)

-- what an array made from a function of the place holds, where the calls leave the function as it was
pub made_placed :
    {F B : Type 0} (g : Mut F (ℕ × Unit {0}) B) (h : ℕ → B) (f : F) (ys : List B) (i n : ℕ) →
    ((k : ℕ) (y : B) (q : F) → Called g f (k, tt) y q → (q ≡ f) × (y ≡ h k)) → IsFromFnResultFrom g f ys i n →
    (k : ℕ) (d : B) → i ≤ k → k < i + n → get_or ys k d ≡ h k
made_placed g h f ys i zero same made k d low high = absurd (omega arith)
made_placed g h f ys i (suc n) same (q, y, here, called, rest) k d low high =
    by_equal k i (λ e. rw e (here.1 d ∙ (same i y q called).1))
    (λ e. let kept : IsFromFnResultFrom g f ys (i + 1) n = rw (same i y q called).0 at rest in
    made_placed g h f ys (i + 1) n same kept k d (omega arith) (omega arith))
