-- The report call. 17: the world, an event count or end place over 32,768, or a stop number that is neither 0 nor in the table;
-- 18: a buffer shorter than 1,024.
use Rattle.std.specs.Prelude.{ℕ, Bool, List, ◌++◌, Result, Ok, Err, ltb, leb, length}
use Rattle.std.proofs.lemmas.List.Edits.{sets}
use Rattle.choice.specs.Choice.{pick, both}
use Rattle.world.specs.declared.World.{World}
use Rattle.world.specs.Sizes.{list_bytes, report_bytes}
use Rattle.world.specs.Valid.{valid_world}
use Rattle.refusals.specs.declared.Reason.{Reason}
use Rattle.refusals.specs.Refusals.{number_of}
use Rattle.lines.specs.Lines.{sizes_line, site_lines, last_line}

-- the whole text
unfoldable pub report_text : World → ℕ → ℕ → ℕ → List ℕ
report_text w events number place = sizes_line w events ++ site_lines w.n w ++ last_line number place

-- the last number: document 01's table goes to 18; of document 02, request (iii) adds 19 and 20, request (vi) 21, request (vii) 22
abbrev pub last_number : ℕ
last_number = 22

-- what 17 asks: the world, the counts, and a stop number that is at most the last
unfoldable pub report_valid : World → ℕ → ℕ → ℕ → Bool
report_valid w events number place =
    both (valid_world w) (both (leb events list_bytes) (both (leb place list_bytes) (leb number last_number)))

-- the call's number (0: accepted), and the text's length
pub record Reported : Type 0 where
  pub number : ℕ
  pub length : ℕ

-- the number and the length that each answer stands for
abbrev pub reported_of : Result ℕ Reason → Reported
reported_of (Ok n) = record { number = 0; length = n }
reported_of (Err reason) = record { number = number_of reason; length = 0 }

-- what the call leaves: its number with the text's length, and the buffer
pub record Report : Type 0 where
  pub reported : Reported
  pub buffer : List ℕ

unfoldable pub untouched : ℕ → List ℕ → Report
untouched number buffer = record { reported = record { number = number; length = 0 }; buffer = buffer }

-- THE REPORT: the text from the buffer's beginning, the bytes beyond it as they were
unfoldable pub report : World → ℕ → ℕ → ℕ → List ℕ → Report
report w events number place buffer =
    pick (report_valid w events number place)
    (pick (ltb (length buffer) report_bytes) (untouched 18 buffer)
    (record {
      reported = record { number = 0; length = length (report_text w events number place) };
      buffer = sets buffer 0 (report_text w events number place);
    }))
    (untouched 17 buffer)
