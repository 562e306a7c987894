-- Laws of reading lines: what measuring a text gives, and what each return of the call leaves.
use Rattle.std.specs.Prelude.{ℕ, ◌+◌, ◌<◌, ◌≤◌, List, ◌≡◌, refl, ltb, eqb, Some, None}
use Rattle.std.proofs.Math.Path.{sym, ap}
use Rattle.std.proofs.Common.{◌∙◌, arith}
use Rattle.std.proofs.Math.ListN.{length}
use borrow.Author.Tests.{lt-ltb, le-ltb, eq-eqb, ne_eqb}
use Rattle.choice.specs.laws.Cases.{by_test}
use Rattle.text.specs.laws.Written.{Written}
use Rattle.command.specs.declared.Parsed.{Parsed}
use Rattle.refusals.specs.Refusals.{number_of}
use Rattle.refusals.specs.declared.Refusal.{Refusal}
use Rattle.std.specs.Prelude.{Ok, Err}
use Rattle.command.specs.Commands.{found}
use Rattle.header.specs.declared.Header.{Header}
use Rattle.spelling.specs.declared.HeaderLine.{HeaderLine}
use Rattle.spelling.specs.Answers.{Answer}
use Rattle.spelling.specs.Spelling.{command_line, command_bytes}
use Rattle.spelling.specs.LineReading.{read_line, read_header_line}
use Rattle.spelling.specs.Script.{spelled_by}
use Rattle.spelling.specs.WriteRead.{refuse, put_out, text_script, bytes_of, spelled_number, read_list, read_commands, after_header, read_lines}
use Rattle.spelling.specs.laws.ScriptLaws.{Forward, script_inside}
use Rattle.spelling.specs.laws.LoopLaws.{Measuring, measuring_begins}
use Rattle.spelling.specs.laws.Measured.{measured_by, Whole, Stopped, whole, stopped}
use Rattle.spelling.specs.laws.Spelt.{Spelt}
use Rattle.spelling.specs.laws.LineBack.{line_spelt, line_refused, line_longer, bytes-fewer}
use Rattle.spelling.specs.laws.BytesBack.{list_length}

-- what measuring a text from a place on gives, its header's five bytes included
unfoldable pub measured : List ℕ → ℕ → Answer
measured s from =
    measured_by (text_script s from) (length s) (5 + length (spelled_by command_bytes (text_script s from).commands))

-- the line reader's refusals have a number
pub refused-number : (s : List ℕ) (at : ℕ) (r : Refusal) → read_line s at ≡ Err r → 1 ≤ number_of r.reason
refused-number s at r e = omega (arith, ap number_of (line_refused s at r e).0)

-- a line that is read is in range, and ends further on than its command's bytes
pub line_at :
    (s : List ℕ) (at : ℕ) (p : Parsed) → at ≤ length s → read_line s at ≡ Ok p →
    Spelt command_line s at p.command p.next
unfolding found
line_at s at p h e = line_spelt s at p.command p.next h e

pub text_forward : (s : List ℕ) → Forward (read_line s) (length s)
text_forward s at p h e = omega (arith, (line_at s at p (omega arith) e).next-is, line_longer p.command)

pub bytes_behind :
    (s : List ℕ) (at : ℕ) (p : Parsed) → at ≤ length s → read_line s at ≡ Ok p →
    at + length (command_bytes p.command) ≤ p.next
bytes_behind s at p h e = omega (arith, (line_at s at p h e).next-is, bytes-fewer p.command)

-- every refusal is inside the text
pub read-inside : (s : List ℕ) (h : Header) (from : ℕ) (b : List ℕ) → from ≤ length s → (read_commands s h from b).answer.place ≤ length s
unfolding read_commands text_script read_list refuse put_out
read-inside s h from b inside =
    by_test (eqb (text_script s from).number 0)
    (λ e. rw e
    (by_test (eqb (spelled_number h (length (bytes_of h (text_script s from).commands))) 0)
    (λ t. rw t (by_test (ltb (length b) (length (bytes_of h (text_script s from).commands))) (λ u. rw u (omega arith)) (λ v. rw v (omega arith))))
    (λ f. rw f (omega arith))))
    (λ e. rw e
    (script_inside (read_line s) (length s) (λ at r q t. omega (arith, (line_refused s at r t).1))
    (λ at p q t. (line_at s at p (omega arith) t).inside) (length s) from inside))

-- measuring begins with the header's bytes
pub list-begins :
    (s : List ℕ) (from : ℕ) →
    Measuring command_bytes (read_line s) (length s) (text_script s from)
    (5 + length (spelled_by command_bytes (text_script s from).commands)) from 5
unfolding text_script
list-begins s from = measuring_begins command_bytes (read_line s) (length s) (text_forward s) from _ 5 refl

-- what each return of the call leaves
module _ (s : List ℕ) (h : Header) (from : ℕ) (b : List ℕ) where
  pub read-stopped :
      ((measured s from).number ≡ 0 → ⊥) → read_commands s h from b ≡ record { answer = measured s from; buffer = b }
  unfolding read_commands measured refuse
  read-stopped bad =
      let t : Stopped (text_script s from) _ _ = stopped _ _ _ bad in
      rw (ne_eqb (text_script s from).number 0 t.refused, t.same)

  module _ (good : (measured s from).number ≡ 0) where
    pub read-list : read_commands s h from b ≡ read_list s h (text_script s from).commands b
    unfolding read_commands measured
    read-list =
        let w : Whole (text_script s from) _ _ = whole _ _ _ good in rw (eq-eqb (text_script s from).number 0 w.ended)

    pub measured-length : (measured s from).length ≡ length (bytes_of h (text_script s from).commands)
    unfolding measured
    measured-length = ap (λ m. m.length) (whole _ _ _ good).same ∙ sym (list_length h (text_script s from).commands)

    measured-is : measured s from ≡ record { number = 0; place = length s; length = (measured s from).length }
    unfolding measured
    measured-is =
        let w : Whole (text_script s from) (length s) _ = whole _ _ _ good in
        w.same ∙ ap (λ n. record { number = 0; place = length s; length = n }) (sym (ap (λ m. m.length) w.same))

    pub read_number :
        (spelled_number h (measured s from).length ≡ 0 → ⊥) →
        read_commands s h from b ≡ refuse (spelled_number h (measured s from).length) 0 b
    unfolding read_list
    read_number bad =
        read-list
        ∙ rw (← measured-length, ne_eqb (spelled_number h (measured s from).length) 0 bad)

    module _ (none : spelled_number h (measured s from).length ≡ 0) where
      pub read-room : length b < (measured s from).length → read_commands s h from b ≡ refuse 20 0 b
      unfolding read_list put_out
      read-room short =
          read-list
          ∙ rw (← measured-length, eq-eqb (spelled_number h (measured s from).length) 0 none, lt-ltb (length b) (measured s from).length short)

      pub read_done :
          (a : List ℕ) (n : ℕ) → (measured s from).length ≤ length b →
          Written b 0 (bytes_of h (text_script s from).commands) a n →
          read_commands s h from b ≡ record { answer = measured s from; buffer = a }
      unfolding read_list put_out
      read_done a n room w =
          read-list
          ∙ rw (← measured-length, eq-eqb (spelled_number h (measured s from).length) 0 none, le-ltb (length b) (measured s from).length room, ← w.holds)
          (ap (λ m. record { answer = m; buffer = a }) (sym measured-is))

-- by the first line
pub lines_missing : (s b : List ℕ) → read_header_line s ≡ None → read_lines s b ≡ refuse 19 0 b
unfolding read_lines after_header
lines_missing s b e = rw e

pub lines-found :
    (s b : List ℕ) (l : HeaderLine) → read_header_line s ≡ Some l →
    read_lines s b ≡ read_commands s l.header l.next b
unfolding read_lines after_header
lines-found s b l e = rw e
