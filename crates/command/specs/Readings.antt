-- What reading a command gives: the command with the place after it, or why there is none.
use Rattle.std.specs.Prelude.{ℕ, Result}
use Rattle.refusals.specs.declared.Refusal.{Refusal}
use Rattle.command.specs.declared.Parsed.{Parsed}

abbrev pub Reading : Type 0
Reading = Result Parsed Refusal

-- a number and a place, which an answer stands for: those of a refusal, or 0 and the place after a command
pub record Mark : Type 0 where
  pub number : ℕ
  pub place : ℕ
