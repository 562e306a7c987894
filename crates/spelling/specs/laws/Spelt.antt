-- What a reading says of a text or a list at a place, in whichever spelling.
use Rattle.std.specs.Prelude.{ℕ, ◌+◌, ◌≤◌, List, ◌++◌, ◌≡◌, length, drop}
use Rattle.command.specs.declared.Command.{Command}
use Rattle.refusals.specs.declared.Refusal.{Refusal}
use Rattle.command.specs.Readings.{Reading}
use Rattle.std.specs.Prelude.{Ok, Err}
use Rattle.spelling.specs.Ranges.{InRange}

-- a command that was read there: what is left begins with it, and the next place is the one after it
pub record Spelt (spell : Command → List ℕ) (s : List ℕ) (at : ℕ) (c : Command) (next : ℕ) : Type 0 where
  pub left : drop at s ≡ spell c ++ drop next s
  pub next-is : next ≡ at + length (spell c)
  pub in_range : InRange c
  pub inside : next ≤ length s

-- an answer: its command is spelt there, or its refusal is such a one
unfoldable pub Says : (Command → List ℕ) → (Refusal → Type 0) → List ℕ → ℕ → Reading → Type 0
Says spell refuses s at (Err r) = refuses r
Says spell refuses s at (Ok p) = Spelt spell s at p.command p.next
