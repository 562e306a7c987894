-- What is claimed of the report: it fits its buffer, with the exact length of the longest.
use Rattle.std.specs.Prelude.{ℕ, ◌≤◌, true, false, ◌≡◌, length, replicate}
use Rattle.site.specs.declared.Group.TheVariants as Group·
use Rattle.site.specs.declared.Outcome.TheVariants as Outcome·
use Rattle.site.specs.declared.Site.{Site}
use Rattle.world.specs.declared.World.{World}
use Rattle.report.specs.Report.{report_text, report_valid}

-- every report that 17 lets pass has at most 941 bytes
abbrev pub ReportFits : Type 0
ReportFits =
    (w : World) (events number place : ℕ) → report_valid w events number place ≡ true →
    length (report_text w events number place) ≤ 941

-- one of that length: sixteen sites of weight 255 down in the commit group; C, A, rows, news, events and end place as high as 17 allows
unfoldable pub down_in_group : Site
down_in_group =
    record {
      codes = replicate 16 2;
      joined = replicate 16 2;
      up = false;
      coordinator = false;
      prepared = true;
      group = Group·.Commit;
      outcome = Outcome·.None;
    }

unfoldable pub longest_world : World
longest_world =
    record {
      sites = replicate 16 down_in_group;
      n = 16;
      commit = record { 0 = 3825 };
      abort = record { 0 = 3825 };
      willing = 0;
      weights = replicate 16 255;
      rows = 1024;
      news = 491520;
    }

abbrev pub LongestReport : Type 0
LongestReport =
    (report_valid longest_world 32768 18 32768 ≡ true) × (length (report_text longest_world 32768 18 32768) ≡ 941)
