-- The call offered to C for one site's step: number, and every byte of every buffer that is lent. The terms are 32 bytes in the places of a
-- world's head, the site is a world's record of a site.
-- 17: bytes or lengths outside the layout, or a member that fails the check behind 17; then the step's own numbers.
use Rattle.std.specs.Prelude.{ℕ, Bool, List, eqb, length, get_or, set}
use Rattle.choice.specs.Choice.{pick, both}
use Rattle.word.specs.Words.{word_at}
use Rattle.code_bytes.specs.CodeBytes.{codes_from}
use Rattle.row.specs.Rows.{put_row_at}
use Rattle.layout.specs.Numbers.{put_number}
use Rattle.layout.specs.Layout.{layout_number, flag_byte, group_byte, outcome_byte, put_site, site_at, at_most, site_in_layout}
use Rattle.member.specs.declared.Member.{Member}
use Rattle.member.specs.declared.Logged.{Logged}
use Rattle.member.specs.Steps.{Answer, logged, site_step}

-- the lengths of terms, site, row and result
abbrev pub terms_bytes : ℕ
terms_bytes = 32

abbrev pub site_bytes : ℕ
site_bytes = 40

abbrev pub row_bytes : ℕ
row_bytes = 20

abbrev pub step_result_bytes : ℕ
step_result_bytes = 8

-- the member that the terms tell of: n, C, A and weights where a world has them; its own number, and whether it is willing
unfoldable pub member_at : List ℕ → Member
member_at b =
    record {
      n = get_or b 1 0;
      weights = codes_from 16 b 16;
      commit = record { 0 = word_at b 2 };
      abort = record { 0 = word_at b 4 };
      own = get_or b 6 0;
      willing = eqb (get_or b 7 0) 1;
    }

-- 32 bytes, the layout number, willing 0 or 1, the reserved bytes 0
unfoldable pub terms_in_layout : List ℕ → Bool
terms_in_layout b =
    both (eqb (length b) terms_bytes) (both (eqb (get_or b 0 0) layout_number) (both (at_most 1 b 7 1) (at_most 8 b 8 0)))

-- every buffer has its length, and terms and site are inside the layout
unfoldable pub step_fits : List ℕ → List ℕ → List ℕ → List ℕ → Bool
step_fits terms site row result =
    both (eqb (length site) site_bytes)
    (both (eqb (length row) row_bytes)
    (both (eqb (length result) step_result_bytes) (both (terms_in_layout terms) (site_in_layout site 0))))

-- what the call leaves
pub record StepLeft : Type 0 where
  pub number : ℕ
  pub site : List ℕ
  pub row : List ℕ
  pub result : List ℕ

-- a number, and no buffer touched
unfoldable pub leave_all : ℕ → List ℕ → List ℕ → List ℕ → StepLeft
leave_all number site row result = record { number = number; site = site; row = row; result = result }

-- the records that the step has written, at each place of the log; a 0; how many entries rose (32 bits)
unfoldable pub put_logged : List ℕ → Logged → ℕ → List ℕ
put_logged result l news =
    put_number 4
    (set (set (set (set result 0 (flag_byte l.prepare)) 1 (group_byte l.group)) 2 (outcome_byte l.outcome)) 3 0) 4 news

-- an accepted step's site, row (twenty zeros where there is none) and result; a refused step leaves every buffer
unfoldable pub leave_step : Answer → List ℕ → List ℕ → List ℕ → StepLeft
leave_step a site row result =
    pick (eqb a.number 0)
    (record {
      number = 0;
      site = put_site site 0 a.site;
      row = put_row_at row 0 a.row;
      result = put_logged result (logged a.records) a.news;
    })
    (leave_all a.number site row result)

-- ONE SITE'S STEP: 17, then the step's own numbers
unfoldable pub step_call : List ℕ → List ℕ → List ℕ → List ℕ → List ℕ → StepLeft
step_call terms site command row result =
    pick (step_fits terms site row result) (leave_step (site_step (member_at terms) (site_at site 0) command) site row result)
    (leave_all 17 site row result)
