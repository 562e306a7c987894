-- What a call accepts is one spelling of a header and commands, and it puts out the other.
use Rattle.std.specs.Prelude.{ℕ, ◌≤◌, List, ◌≡◌, refl, ltb, eqb, length, Option, Some, None}
use Rattle.std.proofs.Common.{ap, ◌∙◌, arith, ltb-false}
use Rattle.choice.specs.Choice.{pick}
use Rattle.choice.specs.laws.ChoiceLaws.{pick_ind}
use Rattle.world.specs.Sizes.{list_bytes}
use Rattle.refusals.specs.Refusals.{number_of}
use Rattle.command.specs.declared.Command.{Command}
use Rattle.command.specs.Commands.{found, read_command}
use Rattle.header.specs.declared.Header.{Header}
use Rattle.header.specs.Headers.{first_header, first_sizes, first_number}
use Rattle.header.specs.laws.HeaderLaws.{first-headed, first_sizes-small}
use Rattle.spelling.specs.declared.HeaderLine.{HeaderLine}
use Rattle.spelling.specs.Spelling.{command_line, command_bytes}
use Rattle.spelling.specs.LineReading.{read_line, read_header_line}
use Rattle.spelling.specs.Script.{Script}
use Rattle.spelling.specs.WriteRead.{Output, refuse, put_out, list_script, text_script, lines_of, bytes_of, spelled_number, write_lines, read_list, read_commands, after_header, read_lines}
use Rattle.spelling.specs.laws.LineBack.{line_longer, line_spelt, line_refused, HeaderLineSpelt, header_line_spelt}
use Rattle.spelling.specs.laws.BytesBack.{header_spelt, header_in_range, command-longer, command_spelt, command-refused}
use Rattle.round_trip.specs.Claims.{output, Bytes}
use Rattle.round_trip.proofs.laws.ScriptBack.{ScriptSpelt, script-spelt, whole_spelt}
use Rattle.round_trip.proofs.laws.Outputs.{passed, put-room, put-gives}
use Rattle.round_trip.proofs.laws.Spells.{Spells}

-- an accepted input of a call
pub record Accepted (call : List ℕ → List ℕ → Output) (from to : Header → List Command → List ℕ) (input b : List ℕ) : Type 0 where
  pub header : Header
  pub commands : List Command
  pub spells : Spells header commands
  pub input_is : input ≡ from header commands
  pub room : length (to header commands) ≤ length b
  pub leaves : call input b ≡ put_out (length input) (to header commands) b

-- what is put out
pub output-is :
    {call : List ℕ → List ℕ → Output} {from to : Header → List Command → List ℕ} {input b : List ℕ}
    (a : Accepted call from to input b) → output (call input b) ≡ to a.header a.commands
output-is {to = to} {input = input} {b = b} a =
    ap output a.leaves ∙ (put-gives (length input) (to a.header a.commands) b a.room).put

-- the script of a list with a header
module _ (list : List ℕ) (bytes : Bytes list) (head : first_number list ≡ 0) where
  pub list_spelt : ScriptSpelt command_bytes list (read_command list) 5 (list_script list)
  unfolding list_script found
  list_spelt =
      script-spelt command_bytes list (read_command list) command-longer
      (λ at p inside e. command_spelt list bytes at p.command p.next e) (length list) 5 (omega arith) (first-headed list head).header

  -- accepted
  module _ (read : (list_script list).number ≡ 0) where
    list-is : list ≡ bytes_of (first_header list) (list_script list).commands
    unfolding bytes_of
    list-is =
        header_spelt list bytes (first-headed list head).header
        ∙ rw (whole_spelt command_bytes list (read_command list) 5 (list_script list) (λ at r e. (command-refused list bytes at r e).0) list_spelt read)

    pub list-spells : Spells (first_header list) (list_script list).commands
    list-spells =
        record {
          header_ok = header_in_range list bytes;
          commands_ok = list_spelt.in_range;
          sizes = (first-headed list head).sizes;
          small = rw (← list-is) (first-headed list head).small;
        }

-- an accepted list
pub written_from :
    (list b : List ℕ) → Bytes list → (write_lines list b).answer.number ≡ 0 → Accepted write_lines bytes_of lines_of list b
unfolding write_lines
written_from list b bytes e =
    let x : Script = list_script list in
    let out : Output = put_out (length list) (lines_of (first_header list) x.commands) b in
    let others : Output = pick (eqb x.number 0) out (refuse x.number x.place b) in
    let p : (first_number list ≡ 0) × (write_lines list b ≡ others) = passed (first_number list) 0 b others e in
    let q : (x.number ≡ 0) × (others ≡ out) = passed x.number x.place b out (rw p.1 at e) in
    let leaves : write_lines list b ≡ out = p.1 ∙ q.1 in
    record {
      header = first_header list;
      commands = x.commands;
      spells = list-spells list bytes p.0 q.0;
      input_is = list-is list bytes p.0 q.0;
      room = put-room (length list) (lines_of (first_header list) x.commands) b (rw leaves at e);
      leaves = leaves;
    }

-- the script of a text after its first line
module _ (s : List ℕ) (l : HeaderLine) (first : HeaderLineSpelt s l) where
  pub text_spelt : ScriptSpelt command_line s (read_line s) l.next (text_script s l.next)
  unfolding text_script found
  text_spelt =
      script-spelt command_line s (read_line s) (λ c. omega (arith, line_longer c))
      (λ at p inside e. line_spelt s at p.command p.next inside e) (length s) l.next (omega arith) first.inside

  text-is : (text_script s l.next).number ≡ 0 → s ≡ lines_of l.header (text_script s l.next).commands
  unfolding lines_of
  text-is read =
      first.left
      ∙ rw (whole_spelt command_line s (read_line s) l.next (text_script s l.next) (λ at r e. omega (arith, ap number_of (line_refused s at r e).0)) text_spelt read)

-- 1 and 3 to 5 do not refuse
pub none_spelled : (h : Header) (n : ℕ) → spelled_number h n ≡ 0 → (n ≤ list_bytes) × (first_sizes h ≡ 0)
unfolding spelled_number
none_spelled h n =
    pick_ind (λ x. x ≡ 0 → (n ≤ list_bytes) × (first_sizes h ≡ 0)) (ltb list_bytes n) 1 (first_sizes h)
    (λ _ z. absurd (omega arith)) (λ off z. (ltb-false list_bytes n off, z))

-- and are no larger
pub spelled_small : (h : Header) (n : ℕ) → spelled_number h n ≤ 5
unfolding spelled_number
spelled_small h n = pick_ind (λ x. x ≤ 5) (ltb list_bytes n) 1 (first_sizes h) (λ _. omega arith) (λ _. first_sizes-small h)

-- an accepted text, its first line read
found_from :
    (s b : List ℕ) (l : HeaderLine) → HeaderLineSpelt s l → read_lines s b ≡ read_commands s l.header l.next b →
    (read_lines s b).answer.number ≡ 0 → Accepted read_lines lines_of bytes_of s b
unfolding read_commands read_list
found_from s b l first m e =
    let x : Script = text_script s l.next in
    let bytes : List ℕ = bytes_of l.header x.commands in
    let n : ℕ = spelled_number l.header (length bytes) in
    let out : Output = put_out (length s) bytes b in
    let list : Output = pick (eqb n 0) out (refuse n 0 b) in
    let others : Output = pick (eqb x.number 0) list (refuse x.number x.place b) in
    let p : (x.number ≡ 0) × (others ≡ list) = passed x.number x.place b list (rw m at e) in
    let q : (n ≡ 0) × (list ≡ out) = passed n 0 b out (rw (m ∙ p.1) at e) in
    let leaves : read_lines s b ≡ out = m ∙ p.1 ∙ q.1 in
    record {
      header = l.header;
      commands = x.commands;
      spells =
          record {
            header_ok = first.in_range;
            commands_ok = (text_spelt s l first).in_range;
            sizes = (none_spelled l.header (length bytes) q.0).1;
            small = (none_spelled l.header (length bytes) q.0).0;
          };
      input_is = text-is s l first p.0;
      room = put-room (length s) bytes b (rw leaves at e);
      leaves = leaves;
    }

-- an accepted text
pub read_from_lem : (s b : List ℕ) → (read_lines s b).answer.number ≡ 0 → Accepted read_lines lines_of bytes_of s b
unfolding read_lines after_header refuse
read_from_lem s b e = go (read_header_line s) refl
  where
    go : (x : Option HeaderLine) → read_header_line s ≡ x → Accepted read_lines lines_of bytes_of s b
    go None m = let z : ◌≡◌ {A = ℕ} 19 0 = rw m at e in absurd (omega arith)
    go (Some l) m = found_from s b l (header_line_spelt s l m) (ap (λ x. after_header s b x) m) e
