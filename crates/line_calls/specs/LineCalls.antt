-- The calls offered to C that write a list or its lines into a lent buffer: number, and every byte of every buffer that is lent.
-- 17: a result of another length than 16; then the call's own numbers.
use Rattle.std.specs.Prelude.{ℕ, List, eqb, length}
use Rattle.choice.specs.Choice.{pick}
use Rattle.layout.specs.Numbers.{put_number}
use Rattle.spelling.specs.WriteRead.{Output}

-- the length of these calls' result buffer
abbrev pub lines_result_bytes : ℕ
lines_result_bytes = 16

-- what such a call leaves
pub record LinesLeft : Type 0 where
  pub number : ℕ
  pub buffer : List ℕ
  pub result : List ℕ

-- the call's number and buffer, and its result: the output's length and the place, 64 bits each
unfoldable pub leave_lines : Output → List ℕ → LinesLeft
leave_lines o result =
    record {
      number = o.answer.number;
      buffer = o.buffer;
      result = put_number 8 (put_number 8 result 0 o.answer.length) 8 o.answer.place;
    }

-- WRITING INTO A BUFFER, whatever call it is, its other operands given. Length 0 and the place are written at a refusal too; at 17 no buffer is touched
unfoldable pub lines_call : (List ℕ → Output) → List ℕ → List ℕ → LinesLeft
lines_call call buffer result =
    pick (eqb (length result) lines_result_bytes) (leave_lines (call buffer) result)
    (record { number = 17; buffer = buffer; result = result })
