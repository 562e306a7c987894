-- A header and commands that both calls accept: writing takes the one spelling to the other, and reading takes it back.
use Prim.Native.Nat.{ℕ, ◌+◌, ◌≤◌}
use mathlib.Core.List.{List}
use Rattle.std.specs.Prelude.{◌≡◌, length, Some}
use Rattle.std.proofs.Math.Path.{refl}
use Rattle.std.proofs.Common.{arith, length-append}
use Rattle.std.proofs.Math.Seq.{drop-append_seam}
use borrow.Author.Tests.{le-ltb, eq-eqb}
use Rattle.world.specs.Sizes.{list_bytes}
use Rattle.command.specs.declared.Command.{Command}
use Rattle.command.specs.Commands.{read_command}
use Rattle.header.specs.declared.Header.{Header}
use Rattle.header.specs.Headers.{first_header, first_sizes, first_number}
use Rattle.spelling.specs.Spelling.{header_line, command_line, header_bytes, command_bytes}
use Rattle.spelling.specs.Ranges.{HeaderInRange, AllInRange}
use Rattle.spelling.specs.LineReading.{read_line, read_header_line}
use Rattle.spelling.specs.Script.{spelled_by}
use Rattle.spelling.specs.WriteRead.{put_out, list_script, text_script, lines_of, bytes_of, spelled_number, write_lines, read_list, read_commands, after_header, read_lines}
use Rattle.spelling.specs.laws.LineBack.{line_longer, line_reads, header_line-reads}
use Rattle.spelling.specs.laws.BytesBack.{list_length, header-reads, command-longer, command-reads}
use Rattle.round_trip.proofs.laws.ScriptBack.{whole, script-reads}

-- a header and commands that both calls accept
pub record Spells (h : Header) (commands : List Command) : Type 0 where
  pub header_ok : HeaderInRange h
  pub commands_ok : AllInRange commands
  pub sizes : first_sizes h ≡ 0
  pub small : length (bytes_of h commands) ≤ list_bytes

-- how long the lines are
pub text-length :
    (h : Header) (commands : List Command) →
    length (lines_of h commands) ≡ length (header_line h) + length (spelled_by command_line commands)
unfolding lines_of
text-length h commands = length-append (header_line h) (spelled_by command_line commands)

module _ (h : Header) (commands : List Command) (ok : Spells h commands) where
  -- WRITING takes the bytes to the lines
  bytes-header : first_header (bytes_of h commands) ≡ h
  unfolding bytes_of
  bytes-header = header-reads h (spelled_by command_bytes commands) ok.header_ok

  bytes-number : first_number (bytes_of h commands) ≡ 0
  unfolding first_number
  bytes-number =
      let list : List ℕ = bytes_of h commands in
      rw (le-ltb list_bytes (length list) ok.small, le-ltb (length list) 5 (omega (arith, list_length h commands)), bytes-header)
      ok.sizes

  bytes_script : list_script (bytes_of h commands) ≡ whole (length (bytes_of h commands)) commands
  unfolding list_script bytes_of header_bytes
  bytes_script =
      let list : List ℕ = bytes_of h commands in
      script-reads command_bytes list (read_command list) command-longer (command-reads list) (length list) 5 commands
      ok.commands_ok (omega arith) (omega (arith, list_length h commands)) refl

  pub writes : (b : List ℕ) → write_lines (bytes_of h commands) b ≡ put_out (length (bytes_of h commands)) (lines_of h commands) b
  unfolding write_lines
  writes b = rw (eq-eqb (first_number (bytes_of h commands)) 0 bytes-number, bytes_script, bytes-header)

  -- READING takes the lines to the bytes
  lines-header : read_header_line (lines_of h commands) ≡ Some (record { header = h; next = length (header_line h) })
  unfolding lines_of
  lines-header = header_line-reads (lines_of h commands) h (spelled_by command_line commands) ok.header_ok refl

  lines_script : text_script (lines_of h commands) (length (header_line h)) ≡ whole (length (lines_of h commands)) commands
  unfolding text_script lines_of
  lines_script =
      let s : List ℕ = lines_of h commands in
      script-reads command_line s (read_line s) (λ c. omega (arith, line_longer c)) (line_reads s) (length s) (length (header_line h)) commands
      ok.commands_ok (omega arith) (omega (arith, text-length h commands))
      (drop-append_seam (header_line h) (spelled_by command_line commands))

  lines-number : spelled_number h (length (bytes_of h commands)) ≡ 0
  unfolding spelled_number
  lines-number = rw (le-ltb list_bytes (length (bytes_of h commands)) ok.small) ok.sizes

  pub reads : (b : List ℕ) → read_lines (lines_of h commands) b ≡ put_out (length (lines_of h commands)) (bytes_of h commands) b
  unfolding read_lines after_header read_commands read_list
  reads b = rw (lines-header, lines_script, eq-eqb (spelled_number h (length (bytes_of h commands))) 0 lines-number)
