use Rattle.std.specs.Prelude.{ℕ, ◌≡◌, ◌<◌, length, get_or}
use Rattle.text.proofs.copy_word.Given as goal

abbrev pub invariant-loop-k : goal.invariant-loop-k
invariant-loop-k l = (length l.place ≡ length l.initial.place) × ((i : ℕ) → i < l.k → get_or l.place i 0 ≡ get_or l.word i 0)
