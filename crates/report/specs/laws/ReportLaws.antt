-- What the report's tests say, and what each of its returns leaves.
use Rattle.std.specs.Prelude.{ℕ, ◌<◌, ◌≤◌, true, false, List, ◌≡◌, leb, length}
use Rattle.std.proofs.Common.{arith, leb-true, lt-ltb, le-ltb}
use Rattle.choice.specs.Choice.{both}
use Rattle.choice.specs.laws.ChoiceLaws.{both_first, both-second}
use Rattle.text.specs.laws.Written.{Written}
use Rattle.world.specs.declared.World.{World}
use Rattle.world.specs.Valid.{valid_world}
use Rattle.report.specs.Report.{last_number, Report, report_text, report_valid, untouched, report}

-- the four parts of 17
pub record ReportParts (w : World) (events number place : ℕ) : Type 0 where
  pub world : valid_world w ≡ true
  pub events-fit : events ≤ 32768
  pub place-fits : place ≤ 32768
  pub number-known : number ≤ last_number

pub report_parts :
    (w : World) (events number place : ℕ) → report_valid w events number place ≡ true → ReportParts w events number place
unfolding report_valid
report_parts w events number place e =
    let counts : both (leb events 32768) (both (leb place 32768) (leb number last_number)) ≡ true =
    both-second (valid_world w) (both (leb events 32768) (both (leb place 32768) (leb number last_number))) e in
    let last : both (leb place 32768) (leb number last_number) ≡ true =
    both-second (leb events 32768) (both (leb place 32768) (leb number last_number)) counts in
    record {
      world = both_first (valid_world w) (both (leb events 32768) (both (leb place 32768) (leb number last_number))) e;
      events-fit = leb-true events 32768 (both_first (leb events 32768) (both (leb place 32768) (leb number last_number)) counts);
      place-fits = leb-true place 32768 (both_first (leb place 32768) (leb number last_number) last);
      number-known = leb-true number last_number (both-second (leb place 32768) (leb number last_number) last);
    }

-- 17
pub report-refused :
    (w : World) (events number place : ℕ) (b : List ℕ) → report_valid w events number place ≡ false →
    report w events number place b ≡ untouched 17 b
unfolding report
report-refused w events number place b e = rw e

-- 18
pub report-short :
    (w : World) (events number place : ℕ) (b : List ℕ) → report_valid w events number place ≡ true → length b < 1024 →
    report w events number place b ≡ untouched 18 b
unfolding report
report-short w events number place b e h = rw (e, lt-ltb (length b) 1024 h)

-- the law by which the code's test of the buffer's length settles the report
pub ruleset rooms = (report-short)

-- what the report leaves, beside a text that was written from the buffer's beginning
unfoldable pub accepted : ℕ → List ℕ → Report
accepted length after = record { reported = record { number = 0; length = length }; buffer = after }

pub report-written :
    (w : World) (events number place : ℕ) (b after : List ℕ) (r : ℕ) → report_valid w events number place ≡ true →
    1024 ≤ length b → Written b 0 (report_text w events number place) after r →
    report w events number place b ≡ accepted r after
unfolding report accepted
report-written w events number place b after r e h t =
    let q : r ≡ length (report_text w events number place) = omega (arith, t.ends) in
    rw (e, le-ltb (length b) 1024 h, t.holds, q)
