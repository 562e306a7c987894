-- What the programs print of a call that writes a list or its lines: its output, or the refusal's line alone.
use Rattle.std.specs.Prelude.{ℕ, List, Result, Ok, Err, eqb, length}
use Rattle.std.proofs.lemmas.List.Edits.{sets}
use Rattle.choice.specs.Choice.{pick}
use Rattle.lines.specs.Lines.{last_line}
use Rattle.refusals.specs.declared.Numbered.{Numbered}
use Rattle.spelling.specs.declared.Spelled.{Spelled}
use Rattle.spelling.specs.Answers.{Answer}

-- the number and the values that each case stands for, where a refusal tells any number
abbrev pub answer_numbered : Result Spelled Numbered → Answer
answer_numbered (Ok s) = record { number = 0; place = s.place; length = s.length }
answer_numbered (Err r) = record { number = r.number; place = r.place; length = 0 }

-- the buffer with what is printed at its beginning
unfoldable pub shown_buffer : Answer → List ℕ → List ℕ
shown_buffer a buffer = pick (eqb a.number 0) buffer (sets buffer 0 (last_line a.number a.place))

-- how many bytes are printed
unfoldable pub shown_length : Answer → ℕ
shown_length a = pick (eqb a.number 0) a.length (length (last_line a.number a.place))
