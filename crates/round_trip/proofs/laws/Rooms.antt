-- In a buffer with room for the longest text, or the longest list, 20 is not met.
use Prim.Native.Nat.{ℕ, ◌≤◌}
use mathlib.Core.List.{List}
use Rattle.std.specs.Prelude.{◌≡◌, length, Option, Some, None}
use Rattle.std.proofs.Math.Path.{refl}
use native.Mathlib.Omega.{arith}
use Rattle.std.proofs.Common.{ap, eq-eqb, ne_eqb}
use Rattle.choice.specs.laws.Cases.{by_equal}
use Rattle.world.specs.Sizes.{list_bytes, text_bytes}
use Rattle.refusals.specs.Refusals.{number_of}
use Rattle.command.specs.declared.Command.{Command}
use Rattle.command.specs.Commands.{read_command}
use Rattle.header.specs.declared.Header.{Header}
use Rattle.header.specs.Headers.{first_header, first_number}
use Rattle.header.specs.laws.HeaderLaws.{first_small}
use Rattle.spelling.specs.declared.HeaderLine.{HeaderLine}
use Rattle.spelling.specs.Spelling.{command_line, command_bytes}
use Rattle.spelling.specs.LineReading.{read_line, read_header_line}
use Rattle.spelling.specs.Script.{Script}
use Rattle.spelling.specs.WriteRead.{refuse, list_script, text_script, lines_of, bytes_of, spelled_number, write_lines, read_list, read_commands, after_header, read_lines}
use Rattle.spelling.specs.laws.LineBack.{line_refused, HeaderLineSpelt, header_line_spelt}
use Rattle.spelling.specs.laws.BytesBack.{command-refused}
use Rattle.round_trip.specs.Claims.{Bytes, RoomEnough}
use Rattle.round_trip.proofs.laws.ScriptBack.{script_below}
use Rattle.round_trip.proofs.laws.Outputs.{put-done}
use Rattle.round_trip.proofs.laws.Accepted.{list_spelt, list-spells, text_spelt, none_spelled, spelled_small}
use Rattle.round_trip.proofs.laws.Lengths.{lines_fit}

-- with room for every text, writing gives no number above 7
written_below : (list b : List ℕ) → Bytes list → text_bytes ≤ length b → (write_lines list b).answer.number ≤ 7
unfolding write_lines refuse
written_below list b bytes room =
    let x : Script = list_script list in
    by_equal (first_number list) 0
    (λ head. rw (eq-eqb (first_number list) 0 head)
    (by_equal x.number 0
    (λ none. rw (eq-eqb x.number 0 none, put-done (length list) (lines_of (first_header list) x.commands) b (omega (arith, lines_fit (first_header list) x.commands (list-spells list bytes head none)))) (omega arith))
    (λ some. rw (ne_eqb x.number 0 some)
    (script_below command_bytes list (read_command list) 7 5 x (λ at r e. (command-refused list bytes at r e).2) (list_spelt list bytes head)))))
    (λ bad. rw (ne_eqb (first_number list) 0 bad) (omega (arith, first_small list)))

-- with room for every list, reading gives none above 5 once the lines are read, and none above 19
module _ (s b : List ℕ) (room : list_bytes ≤ length b) where
  list-below : (h : Header) (commands : List Command) → (read_list s h commands b).answer.number ≤ 5
  unfolding read_list refuse
  list-below h commands =
      let bytes : List ℕ = bytes_of h commands in
      let n : ℕ = spelled_number h (length bytes) in
      by_equal n 0
      (λ none. rw (eq-eqb n 0 none, put-done (length s) bytes b (omega (arith, (none_spelled h (length bytes) none).0))) (omega arith))
      (λ some. rw (ne_eqb n 0 some) (spelled_small h (length bytes)))

  commands-below : (l : HeaderLine) → HeaderLineSpelt s l → (read_commands s l.header l.next b).answer.number ≤ 19
  unfolding read_commands refuse
  commands-below l first =
      let x : Script = text_script s l.next in
      by_equal x.number 0
      (λ none. rw (eq-eqb x.number 0 none) (omega (arith, list-below l.header x.commands)))
      (λ some. rw (ne_eqb x.number 0 some)
      (script_below command_line s (read_line s) 19 l.next x (λ at r e. omega (arith, ap number_of (line_refused s at r e).0)) (text_spelt s l first)))

  read_below : (read_lines s b).answer.number ≤ 19
  unfolding read_lines after_header refuse
  read_below = go (read_header_line s) refl
    where
      go : (x : Option HeaderLine) → read_header_line s ≡ x → (after_header s b x).answer.number ≤ 19
      go None m = omega arith
      go (Some l) m = commands-below l (header_line_spelt s l m)

pub room-enough : RoomEnough
room-enough s b bytes = (λ room e. omega (arith, written_below s b bytes room), λ room e. omega (arith, read_below s b room))
