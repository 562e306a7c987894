-- Laws of writing lines: what measuring a list gives, and what each return of the call leaves.
use Rattle.std.specs.Prelude.{ℕ, ◌<◌, ◌≤◌, List, ◌≡◌, ltb, eqb, length, get_or}
use Rattle.std.proofs.Common.{arith}
use Rattle.std.proofs.Math.ListN.{length-append}
use borrow.Author.Tests.{lt-ltb, le-ltb, eq-eqb, ne_eqb}
use Rattle.choice.specs.laws.Cases.{by_test, by_equal}
use Rattle.text.specs.laws.Written.{Written}
use Rattle.command.specs.declared.Parsed.{Parsed}
use Rattle.std.specs.Prelude.{Ok}
use Rattle.command.specs.Commands.{found, read_command}
use Rattle.header.specs.Headers.{first_header, first_number}
use Rattle.header.specs.laws.HeaderLaws.{first-headed}
use Rattle.spelling.specs.Answers.{Answer}
use Rattle.spelling.specs.Spelling.{header_line, command_line, command_bytes}
use Rattle.spelling.specs.Script.{spelled_by}
use Rattle.spelling.specs.WriteRead.{refuse, put_out, list_script, lines_of, write_lines}
use Rattle.spelling.specs.laws.Measured.{measured_by, Whole, Stopped, whole, stopped}
use Rattle.spelling.specs.laws.Spelt.{Spelt}
use Rattle.spelling.specs.laws.BytesBack.{command_spelt, command-refused, command-longer}
use Rattle.spelling.specs.laws.ScriptLaws.{Forward, script_inside}
use Rattle.spelling.specs.laws.LoopLaws.{Measuring, measuring_begins}

-- the lines of a list, as far as its commands can be read
unfoldable pub text_of : List ℕ → List ℕ
text_of list = lines_of (first_header list) (list_script list).commands

-- what measuring a list gives
unfoldable pub measured : List ℕ → Answer
measured list = measured_by (list_script list) (length list) (length (text_of list))

module _ (list : List ℕ) (bytes : (i : ℕ) → get_or list i 0 < 256) where
  -- a command that is read is in range, and ends further on
  pub command-at : (at : ℕ) (p : Parsed) → read_command list at ≡ Ok p → Spelt command_bytes list at p.command p.next
  unfolding found
  command-at at p e = command_spelt list bytes at p.command p.next e

  pub list_forward : Forward (read_command list) (length list)
  list_forward at p h e = omega (arith, (command-at at p e).next-is, command-longer p.command)

  -- every refusal is inside the list
  script_place : 5 ≤ length list → (list_script list).place ≤ length list
  unfolding list_script
  script_place h =
      script_inside (read_command list) (length list) (λ at r q e. omega (arith, (command-refused list bytes at r e).1))
      (λ at p q e. (command-at at p e).inside) (length list) 5 h

  pub write-inside : (b : List ℕ) → (write_lines list b).answer.place ≤ length list
  unfolding write_lines refuse put_out
  write-inside b =
      by_equal (first_number list) 0
      (λ head. rw (eq-eqb (first_number list) 0 head)
      (by_test (eqb (list_script list).number 0)
      (λ e. rw e (by_test (ltb (length b) (length (lines_of (first_header list) (list_script list).commands))) (λ t. rw t (omega arith)) (λ f. rw f (omega arith))))
      (λ e. rw e (script_place (first-headed list head).header))))
      (λ bad. rw (ne_eqb (first_number list) 0 bad) (omega arith))

  -- measuring begins after the first line
  pub lines_begin : (n : ℕ) → n ≡ length (header_line (first_header list)) →
      Measuring command_line (read_command list) (length list) (list_script list) (length (text_of list)) 5 n
  unfolding text_of lines_of list_script
  lines_begin n e =
      measuring_begins command_line (read_command list) (length list) list_forward 5 (length (text_of list)) n
      (omega (arith, e, length-append (header_line (first_header list)) (spelled_by command_line (list_script list).commands)))

-- what each return of the call leaves
module _ (list b : List ℕ) where
  pub write-header : (first_number list ≡ 0 → ⊥) → write_lines list b ≡ refuse (first_number list) 0 b
  unfolding write_lines
  write-header bad = rw (ne_eqb (first_number list) 0 bad)

  module _ (head : first_number list ≡ 0) where
    pub write-stopped : ((measured list).number ≡ 0 → ⊥) → write_lines list b ≡ record { answer = measured list; buffer = b }
    unfolding write_lines measured refuse
    write-stopped bad =
        let s : Stopped (list_script list) (length list) (length (text_of list)) = stopped _ _ _ bad in
        rw (eq-eqb (first_number list) 0 head, ne_eqb (list_script list).number 0 s.refused, s.same)

    module _ (good : (measured list).number ≡ 0) where
      pub write-room : length b < (measured list).length → write_lines list b ≡ refuse 20 0 b
      unfolding write_lines measured put_out text_of
      write-room short =
          let w : Whole (list_script list) (length list) (length (text_of list)) = whole _ _ _ good in
          rw
          (eq-eqb (first_number list) 0 head, eq-eqb (list_script list).number 0 w.ended, lt-ltb (length b) (length (text_of list)) (rw w.same at short))

      pub write_done :
          (a : List ℕ) (n : ℕ) → (measured list).length ≤ length b → Written b 0 (text_of list) a n →
          write_lines list b ≡ record { answer = measured list; buffer = a }
      unfolding write_lines measured put_out text_of
      write_done a n room w =
          let v : Whole (list_script list) (length list) (length (text_of list)) = whole _ _ _ good in
          rw
          (eq-eqb (first_number list) 0 head, eq-eqb (list_script list).number 0 v.ended, le-ltb (length b) (length (text_of list)) (rw v.same at room), w.holds, v.same)
