-- What the player prints of a play: for 1 to 5 and 21 the refusal line alone, otherwise the report.
use Rattle.std.specs.Prelude.{ℕ, Bool, List, leb, eqb, length}
use Rattle.std.proofs.lemmas.List.Edits.{sets}
use Rattle.choice.specs.Choice.{pick, both, either}
use Rattle.list.specs.Play.{Ended}
use Rattle.lines.specs.Lines.{last_line}
use Rattle.report.specs.Report.{report}

-- a number of length or header
unfoldable pub is_header_number : ℕ → Bool
is_header_number k = either (eqb k 21) (both (leb 1 k) (leb k 5))

-- the buffer with the text
unfoldable pub shown_buffer : Ended → List ℕ → List ℕ
shown_buffer p buffer =
    pick (is_header_number p.number) (sets buffer 0 (last_line p.number 0))
    (report p.world p.events p.number p.place buffer).buffer

-- the text's length
unfoldable pub shown_length : Ended → List ℕ → ℕ
shown_length p buffer =
    pick (is_header_number p.number) (length (last_line p.number 0))
    (report p.world p.events p.number p.place buffer).reported.length
