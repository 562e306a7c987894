-- Writing a list as lines, and reading lines as a list, of the first edition: the first byte is n. Commands are neither played nor checked beyond 6 and 7.
-- The writer's refusals: 1 to 5 at 0; 6 and 7 at the command byte; 20 a buffer shorter than the output, at 0.
-- The reader's: 19 over the whole text, at the first bad line; 1 and 3 to 5 of the list that it spells, at 0; 20 at 0.
use Rattle.std.specs.Prelude.{ℕ, List, ◌++◌, ltb, eqb, length, Option, Some, None}
use Rattle.std.proofs.lemmas.List.Edits.{sets}
use Rattle.choice.specs.Choice.{pick}
use Rattle.world.specs.Sizes.{list_bytes}
use Rattle.command.specs.declared.Command.{Command}
use Rattle.command.specs.Commands.{read_command}
use Rattle.spelling.specs.declared.HeaderLine.{HeaderLine}
use Rattle.header.specs.declared.Header.{Header}
use Rattle.header.specs.Headers.{first_header, first_sizes, first_number}
use Rattle.spelling.specs.Answers.{Answer}
use Rattle.spelling.specs.Spelling.{header_line, command_line, header_bytes, command_bytes}
use Rattle.spelling.specs.LineReading.{read_line, read_header_line}
use Rattle.spelling.specs.Script.{Script, script_from, spelled_by}

-- what a call leaves: its answer, and the buffer
pub record Output : Type 0 where
  pub answer : Answer
  pub buffer : List ℕ

-- a number with its place, and the buffer untouched
unfoldable pub refuse : ℕ → ℕ → List ℕ → Output
refuse number place buffer = record { answer = record { number = number; place = place; length = 0 }; buffer = buffer }

-- the output from the buffer's beginning, the bytes beyond it as they were; the place is the input's length
unfoldable pub put_out : ℕ → List ℕ → List ℕ → Output
put_out place output buffer =
    pick (ltb (length buffer) (length output)) (refuse 20 0 buffer)
    (record { answer = record { number = 0; place = place; length = length output }; buffer = sets buffer 0 output })

-- a list's commands, and its lines
unfoldable pub list_script : List ℕ → Script
list_script list = script_from (length list) (read_command list) (length list) 5

unfoldable pub lines_of : Header → List Command → List ℕ
lines_of h commands = header_line h ++ spelled_by command_line commands

-- WRITING LINES: list bytes to text
unfoldable pub write_lines : List ℕ → List ℕ → Output
write_lines list buffer =
    pick (eqb (first_number list) 0)
    (pick (eqb (list_script list).number 0)
    (put_out (length list) (lines_of (first_header list) (list_script list).commands) buffer)
    (refuse (list_script list).number (list_script list).place buffer))
    (refuse (first_number list) 0 buffer)

-- a text's commands after its first line, and a list's bytes
unfoldable pub text_script : List ℕ → ℕ → Script
text_script s at = script_from (length s) (read_line s) (length s) at

unfoldable pub bytes_of : Header → List Command → List ℕ
bytes_of h commands = header_bytes h ++ spelled_by command_bytes commands

-- 1, or 3 to 5, of a list of so many bytes with this header
unfoldable pub spelled_number : Header → ℕ → ℕ
spelled_number h bytes = pick (ltb list_bytes bytes) 1 (first_sizes h)

-- the list that a text's lines spell, all in their form
unfoldable pub read_list : List ℕ → Header → List Command → List ℕ → Output
read_list s h commands buffer =
    pick (eqb (spelled_number h (length (bytes_of h commands))) 0) (put_out (length s) (bytes_of h commands) buffer)
    (refuse (spelled_number h (length (bytes_of h commands))) 0 buffer)

-- the lines from a place on, with the header read before them
unfoldable pub read_commands : List ℕ → Header → ℕ → List ℕ → Output
read_commands s h at buffer =
    pick (eqb (text_script s at).number 0) (read_list s h (text_script s at).commands buffer)
    (refuse (text_script s at).number (text_script s at).place buffer)

unfoldable pub after_header : List ℕ → List ℕ → Option HeaderLine → Output
after_header s buffer None = refuse 19 0 buffer
after_header s buffer (Some l) = read_commands s l.header l.next buffer

-- READING LINES: text to list bytes
unfoldable pub read_lines : List ℕ → List ℕ → Output
read_lines s buffer = after_header s buffer (read_header_line s)
