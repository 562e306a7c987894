-- How long a text of a list can be, and that one is as long.
use Rattle.std.specs.Prelude.{ℕ, zero, suc, ◌+◌, ◌*◌, ◌≤◌, List, [], ◌∷◌, ◌++◌, ◌≡◌, refl, replicate}
use Rattle.std.proofs.Common.{ap, arith, length-append}
use Rattle.std.proofs.Math.ListN.{length}
use Rattle.std.proofs.lemmas.List.{length-replicate}
use Rattle.text.specs.Text.{text, digit_at, decimal, named}
use Rattle.text.specs.laws.DecimalLaws.{decimal-below}
use Rattle.world.specs.Sizes.{text_bytes}
use Rattle.command.specs.declared.Command.{Command}
use Rattle.command.specs.declared.Command.TheVariants as Command·
use Rattle.header.specs.declared.Header.{Header}
use Rattle.header.specs.Headers.{first_sizes}
use Rattle.header.specs.laws.FirstLaws.{FirstSized, first-sized, first-fitting}
use Rattle.spelling.specs.Spelling.{header_line, command_line, header_bytes, command_bytes}
use Rattle.spelling.specs.Ranges.{HeaderInRange, InRange, AllInRange}
use Rattle.spelling.specs.Script.{spelled_by}
use Rattle.spelling.specs.WriteRead.{lines_of, bytes_of, write_lines}
use Rattle.spelling.specs.laws.LineBack.{line_fits}
use Rattle.spelling.specs.laws.BytesBack.{list_length}
use Rattle.round_trip.specs.Claims.{TextFits, longest_list, LongestText}
use Rattle.round_trip.proofs.laws.Outputs.{put-done}
use Rattle.round_trip.proofs.laws.Spells.{Spells, text-length, writes}
use Rattle.round_trip.proofs.laws.Accepted.{Accepted, written_from}

-- the first line has at most 42 bytes
header-fits : (h : Header) → HeaderInRange h → first_sizes h ≡ 0 → length (header_line h) ≤ 42
unfolding header_line named text
header-fits h ok e =
    let z : FirstSized h.n h.commit h.abort h.willing = first-sized h e in
    simp length-append
    (omega (arith, decimal-below 2 h.n (omega arith) (omega arith), decimal-below 2 h.commit.0 (omega arith) (omega arith), decimal-below 2 h.abort.0 (omega arith) (omega arith), decimal-below 5 h.willing (omega arith) (omega arith)))

-- the others at most six for each byte of the list
commands-fit : (commands : List Command) → AllInRange commands → length (spelled_by command_line commands) ≤ 6 * length (spelled_by command_bytes commands)
unfolding spelled_by
commands-fit [] ok = omega arith
commands-fit (c ∷ commands) (AllInRange.more low ok) =
    simp length-append (omega (arith, line_fits c low, commands-fit commands ok))

-- so the text of a list has at most 196,620
pub lines_fit : (h : Header) (commands : List Command) → Spells h commands → length (lines_of h commands) ≤ text_bytes
lines_fit h commands ok =
    omega (arith, text-length h commands, list_length h commands, ok.small, header-fits h ok.header_ok ok.sizes, commands-fit commands ok.commands_ok)

pub text-fits : TextFits
text-fits list b bytes e =
    let a : Accepted write_lines bytes_of lines_of list b = written_from list b bytes e in
    let h : Header = a.header in
    let commands : List Command = a.commands in
    rw (a.leaves, put-done (length list) (lines_of h commands) b a.room) (lines_fit h commands a.spells)

-- THE LONGEST: so many starts
starts_in_range : (n : ℕ) → AllInRange (replicate n Command·.Start)
unfolding InRange
starts_in_range zero = AllInRange.none
starts_in_range (suc n) = AllInRange.more tt (starts_in_range n)

starts-bytes : (n : ℕ) → spelled_by command_bytes (replicate n Command·.Start) ≡ replicate n 1
unfolding spelled_by command_bytes
starts-bytes zero = refl
starts-bytes (suc n) = rw (starts-bytes n)

starts-lines : (n : ℕ) → length (spelled_by command_line (replicate n Command·.Start)) ≡ 6 * n
unfolding spelled_by command_line text
starts-lines zero = refl
starts-lines (suc n) = omega (arith, starts-lines n)

-- after a header
module _ (h : Header) (n : ℕ) (ok : HeaderInRange h) (sizes : first_sizes h ≡ 0) (small : 5 + n ≤ 32768) where
  starts_spell : Spells h (replicate n Command·.Start)
  starts_spell =
      record {
        header_ok = ok;
        commands_ok = starts_in_range n;
        sizes = sizes;
        small = omega (arith, list_length h (replicate n Command·.Start), ap length (starts-bytes n), length-replicate {A = ℕ} n 1);
      }

  starts-text :
      (list b : List ℕ) → list ≡ header_bytes h ++ replicate n 1 → length (header_line h) + 6 * n ≤ length b →
      ((write_lines list b).answer.number ≡ 0) × ((write_lines list b).answer.length ≡ length (header_line h) + 6 * n)
  unfolding bytes_of
  starts-text list b e room =
      let long : length (lines_of h (replicate n Command·.Start)) ≡ length (header_line h) + 6 * n =
      omega (arith, text-length h (replicate n Command·.Start), starts-lines n) in
      rw (e, ← starts-bytes n, writes h (replicate n Command·.Start) starts_spell b, put-done _ (lines_of h (replicate n Command·.Start)) b (omega arith))
      (refl, long)

pub longest_text : LongestText
unfolding longest_list header_line named text decimal digit_at
longest_text b room =
    let h : Header = record { n = 16; commit = record { 0 = 15 }; abort = record { 0 = 15 }; willing = 65535 } in
    let sizes : first_sizes h ≡ 0 =
    first-fitting h
    (record {
      low = omega arith;
      high = omega arith;
      commit-below = omega arith;
      abort-below = omega arith;
      quorums_meet = omega arith;
      willing-below = omega arith;
    }) in
    starts-text h 32763 (record { sites = omega arith; commit = omega arith; abort = omega arith; willing = omega arith }) sizes
    (omega arith) longest_list b refl room
