-- The library's test whether a text begins with a word.
use Rattle.std.specs.Prelude.{ℕ, ◌-◌, Bool, ◌&&◌, List, [], ◌∷◌, ◌≡◌, refl, eqb, length, take, drop}
use Rattle.std.proofs.Common.{arith, length-drop, take_all}
use Rattle.std.proofs.lemmas.Bool.Decides.{nat_tests}
use Rattle.std.specs.List.{starts_with}
use Rattle.choice.specs.Choice.{both}
use Rattle.scan.specs.Scan.{begins_with, word_at}

both_ways : (a b : ℕ) (t : Bool) → (eqb b a && t) ≡ both (eqb a b) t
both_ways a b t = grind (arith, nat_tests)

begins : (w s : List ℕ) → starts_with eqb s w ≡ begins_with w s
unfolding begins_with
begins [] s = refl
begins (b ∷ w) [] = refl
begins (b ∷ w) (a ∷ s) = rw (← begins w s) (both_ways a b (starts_with eqb s w))

-- of what is left of the text at a place
pub word_begins :
    (w s : List ℕ) (at : ℕ) → starts_with eqb (take (length s - at) (drop at s)) w ≡ word_at w s at
unfolding word_at
word_begins w s at = rw (take_all (length s - at) (drop at s) (simp length-drop (omega arith))) (begins w (drop at s))
