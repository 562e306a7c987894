-- What a call that writes a list or its lines answers beside the buffer.
use Rattle.std.specs.Prelude.{ℕ, Result, Ok, Err}
use Rattle.refusals.specs.declared.Refusal.{Refusal}
use Rattle.refusals.specs.Refusals.{number_of}
use Rattle.spelling.specs.declared.Spelled.{Spelled}

-- number (0: accepted), place, and the output's length
pub record Answer : Type 0 where
  pub number : ℕ
  pub place : ℕ
  pub length : ℕ

-- the number and the values that each case stands for
abbrev pub answer_of : Result Spelled Refusal → Answer
answer_of (Ok s) = record { number = 0; place = s.place; length = s.length }
answer_of (Err r) = record { number = number_of r.reason; place = r.place; length = 0 }
