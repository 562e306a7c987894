-- Each call gives back what the other took, and the texts that are accepted are those that are written.
use Rattle.std.specs.Prelude.{ℕ, ◌≤◌, List, ◌++◌, ◌≡◌, length}
use Rattle.std.proofs.Common.{sym, ap, ◌∙◌, arith, length-append}
use Rattle.command.specs.declared.Command.{Command}
use Rattle.header.specs.declared.Header.{Header}
use Rattle.spelling.specs.WriteRead.{Output, put_out, lines_of, bytes_of, write_lines, read_lines}
use Rattle.round_trip.specs.Claims.{output, Gives, WriteThenRead, ReadThenWrite, OneSpelling, AcceptedIsWriting, WritingIsAccepted}
use Rattle.round_trip.proofs.laws.Outputs.{put-gives}
use Rattle.round_trip.proofs.laws.Spells.{Spells, writes, reads}
use Rattle.round_trip.proofs.laws.SpelledBytes.{spelled_bytes}
use Rattle.round_trip.proofs.laws.Accepted.{Accepted, output-is, written_from, read_from_lem}

-- one call, and the one that takes its outputs back
there_and_back :
    {call : List ℕ → List ℕ → Output} {from to : Header → List Command → List ℕ} {input b : List ℕ}
    (back : List ℕ → List ℕ → Output) →
    ((h : Header) (commands : List Command) → Spells h commands → (c : List ℕ) →
    back (to h commands) c ≡ put_out (length (to h commands)) (from h commands) c) →
    Accepted call from to input b → (c : List ℕ) → length input ≤ length c →
    Gives (back (output (call input b)) c) (length (output (call input b))) input
there_and_back {to = to} {input = input} back takes_back a c room =
    rw (output-is a, takes_back a.header a.commands a.spells c, ← a.input_is)
    (put-gives (length (to a.header a.commands)) input c room)

pub write-then-read : WriteThenRead
write-then-read list b c bytes e room = there_and_back read_lines reads (written_from list b bytes e) c room

pub read-then-write : ReadThenWrite
read-then-write s b c e room = there_and_back write_lines writes (read_from_lem s b e) c room

pub one_spelling : OneSpelling
one_spelling s t b c p q e =
    sym (read-then-write s b (s ++ t) p (omega (arith, length-append s t))).put
    ∙ ap (λ l. output (write_lines l (s ++ t))) e
    ∙ (read-then-write t c (s ++ t) q (omega (arith, length-append s t))).put

pub accepted-is_writing : AcceptedIsWriting
accepted-is_writing s b e =
    let a : Accepted read_lines lines_of bytes_of s b = read_from_lem s b e in
    record {
      list = output (read_lines s b);
      bytes =
          rw (output-is a)
          (spelled_bytes a.header a.commands a.spells.header_ok a.spells.commands_ok);
      written = λ c room. read-then-write s b c e room;
    }

pub writing_is-accepted : WritingIsAccepted
writing_is-accepted s b w room =
    let g : Gives (write_lines w.list s) (length w.list) s = w.written s (omega arith) in
    rw g.put at (write-then-read w.list s b w.bytes g.accepted room).accepted
