-- An accepted step's bytes hold its site, and its row arrives.
use Rattle.std.specs.Prelude.{ℕ, List, ◌≡◌, eqb}
use Rattle.std.proofs.Common.{◌∙◌, arith, eqb-true}
use Rattle.std.proofs.lemmas.Bool.{eqb-false}
use Rattle.choice.specs.laws.ChoiceLaws.{pick_ind}
use Rattle.code_bytes.specs.laws.CodeBytesLaws.{codes_from-length}
use Rattle.row.specs.Rows.{put_row_at}
use Rattle.layout.specs.Layout.{put_site, site_at}
use Rattle.layout.specs.laws.SiteLaws.{put_site-length, site-read-back, site-inside}
use Rattle.member.specs.Steps.{Answer, logged, site_step}
use Rattle.member.specs.Claims.{Long, Ready}
use Rattle.member.specs.laws.StepLaws.{accepted-stays-valid}
use Rattle.member.specs.laws.Sent.{rows_arrive}
use Rattle.step_calls.specs.StepCalls.{member_at, step_fits, leave_all, put_logged, leave_step, step_call}
use Rattle.step_calls.specs.Claims.{Crosses, StepCrosses}
use Rattle.step_calls.specs.laws.StepCallLaws.{Lengths, fits-long}

-- the site that lies in any bytes
site-long : (b : List ℕ) → Long (site_at b 0)
unfolding site_at
site-long b = record { codes = codes_from-length 16 b 8; joined = codes_from-length 16 b 24 }

module _ (terms site command row result : List ℕ) (lengths : Lengths terms site row result) where
  abbrev answer : Answer
  answer = site_step (member_at terms) (site_at site 0) command

  accepted_crosses : answer.number ≡ 0 →
      Crosses
      (record { number = 0; site = put_site site 0 answer.site; row = put_row_at row 0 answer.row; result = put_logged result (logged answer.records) answer.news })
      answer
  accepted_crosses e =
      let after : Ready (member_at terms) answer.site = accepted-stays-valid (member_at terms) (site_at site 0) command (site-long site) e in
      record {
        long = put_site-length site 0 answer.site ∙ lengths.site-long;
        inside = site-inside site 0 answer.site (omega (arith, lengths.site-long));
        same-site =
            site-read-back site 0 answer.site (omega (arith, lengths.site-long)) after.long.codes after.long.joined;
        delivers = λ some. (rows_arrive (member_at terms) (site_at site 0) command (site-long site) some).delivers row lengths.row-long;
        same_row = λ some. (rows_arrive (member_at terms) (site_at site 0) command (site-long site) some).same row lengths.row-long;
      }

  left_crosses : (leave_step answer site row result).number ≡ 0 → Crosses (leave_step answer site row result) answer
  unfolding leave_step leave_all
  left_crosses =
      pick_ind (λ left. left.number ≡ 0 → Crosses left answer) (eqb answer.number 0) _ _
      (λ t _. accepted_crosses (eqb-true answer.number 0 t))
      (λ t e. absurd (eqb-false answer.number 0 t e))

pub step_crosses : StepCrosses
unfolding step_call leave_all
step_crosses terms site command row result =
    pick_ind (λ left. left.number ≡ 0 → Crosses left (site_step (member_at terms) (site_at site 0) command)) (step_fits terms site row result) _ _
    (λ fits. left_crosses terms site command row result (fits-long terms site row result fits))
    (λ _ e. absurd (omega arith))
