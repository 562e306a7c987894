-- A refusal leaves the buffer, and an output what lies beyond it.
use Rattle.std.specs.Prelude.{ℕ, suc, ◌+◌, ◌≤◌, Bool, true, false, List, [], ◌∷◌, ◌≡◌, refl, ltb, length, get_or, set, Option, Some, None}
use Rattle.std.proofs.Common.{◌∙◌, arith, get_or-set_other}
use Rattle.std.proofs.lemmas.List.Edits.{sets}
use Rattle.std.proofs.Math.Seq.{length-sets}
use Rattle.choice.specs.Choice.{pick}
use Rattle.spelling.specs.declared.HeaderLine.{HeaderLine}
use Rattle.header.specs.declared.Header.{Header}
use Rattle.spelling.specs.LineReading.{read_header_line}
use Rattle.spelling.specs.WriteRead.{Output, refuse, put_out, write_lines, read_list, read_commands, after_header, read_lines}
use Rattle.round_trip.specs.Claims.{Untouched, BufferKept}

-- a run of stores leaves the bytes past it
sets_beyond : (b : List ℕ) (at : ℕ) (out : List ℕ) (k : ℕ) → at + length out ≤ k → get_or (sets b at out) k 0 ≡ get_or b k 0
sets_beyond b at [] k h = refl
sets_beyond b at (a ∷ out) k h =
    sets_beyond (set b at a) (suc at) out k (omega arith) ∙ get_or-set_other b at k a 0 (omega arith)

-- a refusal, a choice, an output
pub refuse-untouched : (number place : ℕ) (b : List ℕ) → Untouched (refuse number place b) b
unfolding refuse
refuse-untouched number place b =
    record { refused-same = λ bad. (refl, refl); beyond-same = λ k h. refl; same_length = refl }

pub pick-untouched : (t : Bool) (x y : Output) (b : List ℕ) → Untouched x b → Untouched y b → Untouched (pick t x y) b
pick-untouched true x y b p q = p
pick-untouched false x y b p q = q

pub put-untouched : (place : ℕ) (out b : List ℕ) → Untouched (put_out place out b) b
unfolding put_out
put-untouched place out b =
    pick-untouched (ltb (length b) (length out)) _ _ b (refuse-untouched 20 0 b)
    (record {
      refused-same = λ bad. absurd (bad refl);
      beyond-same = λ k h. sets_beyond b 0 out k (omega arith);
      same_length = length-sets b 0 out;
    })

-- the two calls
written-untouched : (list b : List ℕ) → Untouched (write_lines list b) b
unfolding write_lines
written-untouched list b = search (pick-untouched, put-untouched, refuse-untouched)

commands-untouched : (s : List ℕ) (h : Header) (at : ℕ) (b : List ℕ) → Untouched (read_commands s h at b) b
unfolding read_commands read_list
commands-untouched s h at b = search (pick-untouched, put-untouched, refuse-untouched)

after_untouched : (s b : List ℕ) (x : Option HeaderLine) → Untouched (after_header s b x) b
unfolding after_header
after_untouched s b None = refuse-untouched 19 0 b
after_untouched s b (Some l) = commands-untouched s l.header l.next b

pub buffer-kept : BufferKept
unfolding read_lines
buffer-kept s b = (written-untouched s b, after_untouched s b (read_header_line s))
