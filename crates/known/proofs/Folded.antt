-- A chain over the codes below n, said place by place.
use Rattle.std.specs.Prelude.{ℕ, zero, suc, ◌≤◌, ◌<◌, Bool, true, ◌&&◌, List, ◌≡◌, refl, leb, length, get_or, take}
use Rattle.std.specs.List.{fold}
use Rattle.std.proofs.Common.{sym, ◌∙◌, arith}
use Rattle.std.proofs.lemmas.List.{length-take-le, get_or-take}
use Rattle.choice.specs.Choice.{both}
use Rattle.choice.specs.laws.EachPlace.{and_both, fold_placed}
use Rattle.row.specs.Rows.{codes_known}

pub folded_known :
    (n : ℕ) (codes : List ℕ) (r : Bool) → n ≤ length codes → r ≡ fold (λ before x. before && leb x 5) true (take n codes) → r ≡ codes_known n codes
unfolding codes_known
folded_known n codes r few e =
    let size : length (take n codes) ≡ n = length-take-le n codes few in
    rw size at (fold_placed (λ before x. before && leb x 5) true (take n codes) 0 (λ k. codes_known k codes) refl
    (λ k h. let low : k < n = rw size at h in
    rw (get_or-take n codes k 0 low) (sym (and_both (codes_known k codes) (leb (get_or codes k 0) 5)))) r e)
