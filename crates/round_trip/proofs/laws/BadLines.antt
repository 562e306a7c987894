-- 19 is given exactly at the first line that is not in its form.
use Rattle.std.specs.Prelude.{ℕ, ◌≤◌, List, ◌++◌, ◌≡◌, refl, ltb, eqb, length, drop, Option, Some, None}
use Rattle.std.proofs.Common.{append_assoc, ap, ◌∙◌, arith, eq-eqb, ne_eqb}
use Rattle.std.proofs.Math.Seq.{drop-append_seam}
use Rattle.choice.specs.laws.Cases.{by_test, by_equal}
use Rattle.command.specs.declared.Command.{Command}
use Rattle.refusals.specs.declared.Refusal.{Refusal}
use Rattle.command.specs.Readings.{Reading}
use Rattle.std.specs.Prelude.{Ok, Err}
use Rattle.command.specs.Commands.{found, refused}
use Rattle.header.specs.declared.Header.{Header}
use Rattle.spelling.specs.declared.HeaderLine.{HeaderLine}
use Rattle.spelling.specs.Spelling.{header_line, command_line}
use Rattle.spelling.specs.Ranges.{InRange}
use Rattle.spelling.specs.LineReading.{bad_line, read_line, read_header_line}
use Rattle.spelling.specs.Script.{Script, spelled_by}
use Rattle.spelling.specs.WriteRead.{refuse, put_out, text_script, lines_of, bytes_of, spelled_number, read_list, read_commands, after_header, read_lines}
use Rattle.spelling.specs.laws.LineBack.{line_longer, line_reads, LineSpelt, line_spelt, line_refused, header_line-reads, HeaderLineSpelt, header_line_spelt}
use Rattle.round_trip.specs.Claims.{BadLine, FirstBadLine, BadLineRefused}
use Rattle.round_trip.proofs.laws.ScriptBack.{Ended, ScriptSpelt, spelt-reads}
use Rattle.round_trip.proofs.laws.Spells.{text-length}
use Rattle.round_trip.proofs.laws.Accepted.{text_spelt, spelled_small}

-- a list's number is not 19
list-other : (s : List ℕ) (h : Header) (commands : List Command) (b : List ℕ) → (read_list s h commands b).answer.number ≡ 19 → ⊥
unfolding read_list put_out refuse
list-other s h commands b =
    let n : ℕ = spelled_number h (length (bytes_of h commands)) in
    by_test (eqb n 0)
    (λ on. rw on
    (by_test (ltb (length b) (length (bytes_of h commands))) (λ short. rw short (λ z. omega arith)) (λ long. rw long (λ z. omega arith))))
    (λ off. rw off (λ z. omega (arith, spelled_small h (length (bytes_of h commands)))))

-- where a line is refused, none stands
none-stands :
    (s : List ℕ) (at : ℕ) (r : Refusal) → read_line s at ≡ Err r → (c : Command) (t : List ℕ) →
    InRange c → drop at s ≡ command_line c ++ t → ⊥
unfolding found
none-stands s at r refused c t ok e =
    let f = line_reads s at c t ok e in
    let z : ◌≡◌ {A = ℕ} 0 1 = cc in
    omega arith

-- and where none stands, it is refused
none-refused :
    (s : List ℕ) (at : ℕ) → at ≤ length s →
    ((c : Command) (t : List ℕ) → InRange c → drop at s ≡ command_line c ++ t → ⊥) → read_line s at ≡ bad_line at
unfolding bad_line refused found
none-refused s at inside none = go (read_line s at) refl
  where
    go : (x : Reading) → read_line s at ≡ x → x ≡ bad_line at
    go (Err r) e = let f = line_refused s at r e in rw (← f.0, ← f.1)
    go (Ok p) e =
        let f : LineSpelt s at p.command p.next = line_spelt s at p.command p.next inside e in
        absurd (none p.command (drop p.next s) f.in_range f.left)

-- a first line that was read, and the lines after it
module _ (s : List ℕ) (l : HeaderLine) (first : HeaderLineSpelt s l) where
  script_bad : (text_script s l.next).number ≡ 19 → BadLine s (text_script s l.next).place
  unfolding lines_of
  script_bad e = go (text_spelt s l first) (text_spelt s l first).ended
    where
      go :
          (p : ScriptSpelt command_line s (read_line s) l.next (text_script s l.next)) →
          Ended command_line s (read_line s) p.upto (text_script s l.next) → BadLine s (text_script s l.next).place
      go p (Ended.at-end z place end) = absurd (omega arith)
      go p (Ended.at-refusal r refused number place inside) =
          rw (place, (line_refused s p.upto r refused).1)
          (BadLine.later_line l.header (text_script s l.next).commands p.upto first.in_range p.in_range
          (rw (append_assoc, ← p.left) first.left)
          (omega (arith, text-length l.header (text_script s l.next).commands, first.next-is, p.upto_is)) inside
          (none-stands s p.upto r refused))

  commands_bad :
      (b : List ℕ) → (read_commands s l.header l.next b).answer.number ≡ 19 →
      BadLine s (read_commands s l.header l.next b).answer.place
  unfolding read_commands refuse
  commands_bad b =
      let x : Script = text_script s l.next in
      by_equal x.number 0
      (λ none e. absurd (list-other s l.header x.commands b (rw (eq-eqb x.number 0 none) at e)))
      (λ some. rw (ne_eqb x.number 0 some) script_bad)

pub first-bad_line : FirstBadLine
unfolding read_lines after_header refuse
first-bad_line s b = go (read_header_line s) refl
  where
    go : (x : Option HeaderLine) → read_header_line s ≡ x → (after_header s b x).answer.number ≡ 19 → BadLine s (after_header s b x).answer.place
    go None m e =
        BadLine.first_line λ h t ok f.
        let r = header_line-reads s h t ok f in
        let z : ◌≡◌ {A = ℕ} 0 1 = cc in
        omega arith
    go (Some l) m e = commands_bad s l (header_line_spelt s l m) b e

pub bad_line-refused : BadLineRefused
unfolding read_lines after_header read_commands refuse text_script lines_of bad_line refused
bad_line-refused s b _ (BadLine.first_line none) = go (read_header_line s) refl
  where
    go : (x : Option HeaderLine) → read_header_line s ≡ x → ((after_header s b x).answer.number ≡ 19) × ((after_header s b x).answer.place ≡ 0)
    go None m = (refl, refl)
    go (Some l) m =
        let first : HeaderLineSpelt s l = header_line_spelt s l m in
        absurd (none l.header (drop l.next s) first.in_range first.left)
bad_line-refused s b _ (BadLine.later_line h commands at low ok begins long inside none) =
    let t : List ℕ = spelled_by command_line commands ++ drop at s in
    let e : s ≡ header_line h ++ t = begins ∙ append_assoc (header_line h) (spelled_by command_line commands) (drop at s) in
    let script : text_script s (length (header_line h)) ≡ record { number = 19; place = at; commands = commands } =
    spelt-reads command_line s (read_line s) (λ c. omega (arith, line_longer c)) (line_reads s) (length s) (length (header_line h)) _ (omega arith)
    (record {
      upto = at;
      left = ap (λ l. drop (length (header_line h)) l) e ∙ drop-append_seam (header_line h) t;
      upto_is = omega (arith, text-length h commands);
      in_range = ok;
      ended = Ended.at-refusal _ (none-refused s at (omega arith) none) refl refl inside;
    }) in
    rw (header_line-reads s h t low e, script) (refl, refl)
