-- What the call leaves, by what the code holds of the step.
use Rattle.std.specs.Prelude.{ℕ, Bool, true, false, List, ◌≡◌, eqb, length}
use Rattle.std.proofs.Math.Path.{sym, ap}
use Rattle.std.proofs.Common.{◌∙◌, eqb-true, eq-eqb, ne_eqb}
use Rattle.choice.specs.Choice.{both}
use Rattle.choice.specs.laws.ChoiceLaws.{pick-on, pick_off, both_first, both-second}
use Rattle.row.specs.Rows.{put_row_at}
use Rattle.layout.specs.Layout.{put_site, site_at, site_in_layout}
use Rattle.site.specs.declared.Site.{Site}
use Rattle.member.specs.declared.Member.{Member}
use Rattle.member.specs.Steps.{Handed, site_step, taken_of}
use Rattle.step_calls.specs.StepCalls.{
  site_bytes,
  row_bytes,
  step_result_bytes,
  member_at,
  terms_in_layout,
  step_fits,
  StepLeft,
  leave_all,
  put_logged,
  leave_step,
  step_call,
}

-- what an accepted step leaves
unfoldable pub accepted_left : Handed → List ℕ → List ℕ → List ℕ → StepLeft
accepted_left t site row result =
    record {
      number = 0;
      site = put_site site 0 t.site;
      row = put_row_at row 0 t.row;
      result = put_logged result t.logged t.news;
    }

-- the lengths that such buffers have
pub record Lengths (terms site row result : List ℕ) : Type 0 where
  pub terms-long : length terms ≡ 32
  pub site-long : length site ≡ 40
  pub row-long : length row ≡ 20
  pub result-long : length result ≡ 8

pub fits-long : (terms site row result : List ℕ) → step_fits terms site row result ≡ true → Lengths terms site row result
unfolding step_fits terms_in_layout
fits-long terms site row result e =
    let own : Bool = eqb (length site) site_bytes in
    let rows : Bool = eqb (length row) row_bytes in
    let results : Bool = eqb (length result) step_result_bytes in
    let rest : both rows (both results (both (terms_in_layout terms) (site_in_layout site 0))) ≡ true = both-second own _ e in
    let more : both results (both (terms_in_layout terms) (site_in_layout site 0)) ≡ true = both-second rows _ rest in
    record {
      terms-long =
          eqb-true (length terms) 32
          (both_first (eqb (length terms) 32) _ (both_first (terms_in_layout terms) (site_in_layout site 0) (both-second results _ more)));
      site-long = eqb-true (length site) 40 (both_first own _ e);
      row-long = eqb-true (length row) 20 (both_first rows _ rest);
      result-long = eqb-true (length result) 8 (both_first results _ more);
    }

-- number and buffers of the same leaving, one by one
pub each_left :
    (l k : StepLeft) → l ≡ k →
    (k.number ≡ l.number) × ((k.site ≡ l.site) × ((k.row ≡ l.row) × (k.result ≡ l.result)))
each_left l k e =
    (sym (ap (λ x. x.number) e), (sym (ap (λ x. x.site) e), (sym (ap (λ x. x.row) e), sym (ap (λ x. x.result) e))))

pub call_unfit :
    (terms site command row result : List ℕ) → step_fits terms site row result ≡ false →
    step_call terms site command row result ≡ leave_all 17 site row result
unfolding step_call
call_unfit terms site command row result e = pick_off (step_fits terms site row result) _ _ e

-- a step of the member and the site that the bytes hold
module _
    (terms site command row result : List ℕ) (fits : step_fits terms site row result ≡ true) (m : Member) (s : Site) (t : Handed)
    (told : m ≡ member_at terms) (held : s ≡ site_at site 0) (taken : t ≡ taken_of (site_step m s command)) where
  held_step : t ≡ taken_of (site_step (member_at terms) (site_at site 0) command)
  held_step =
      taken ∙ ap (λ x. taken_of (site_step x s command)) told ∙ ap (λ x. taken_of (site_step (member_at terms) x command)) held

  held_number : t.number ≡ (site_step (member_at terms) (site_at site 0) command).number
  unfolding taken_of
  held_number = ap (λ x. x.number) held_step

  pub call-refused : (t.number ≡ 0 → ⊥) → step_call terms site command row result ≡ leave_all t.number site row result
  unfolding step_call leave_step
  call-refused some =
      pick-on (step_fits terms site row result) _ _ fits
      ∙ pick_off (eqb (site_step (member_at terms) (site_at site 0) command).number 0) _ _
      (ne_eqb (site_step (member_at terms) (site_at site 0) command).number 0 (λ z. some (held_number ∙ z)))
      ∙ ap (λ x. leave_all x site row result) (sym held_number)

  pub call-accepted : t.number ≡ 0 → step_call terms site command row result ≡ accepted_left t site row result
  unfolding step_call leave_step taken_of accepted_left
  call-accepted none =
      pick-on (step_fits terms site row result) _ _ fits
      ∙ pick-on (eqb (site_step (member_at terms) (site_at site 0) command).number 0) _ _
      (eq-eqb (site_step (member_at terms) (site_at site 0) command).number 0 (sym held_number ∙ none))
      ∙ sym (ap (λ x. accepted_left x site row result) held_step)
