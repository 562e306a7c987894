-- What is claimed of a site and a row that cross to C: the next call reads the site that the last one gave, and another site's call the row.
use Rattle.std.specs.Prelude.{true, List, ◌∷◌, ◌≡◌, ℕ, length}
use Rattle.layout.specs.Layout.{site_at, site_in_layout}
use Rattle.member.specs.declared.Order.TheVariants as Order·
use Rattle.std.specs.Prelude.{Ok}
use Rattle.member.specs.Orders.{row_in, read_order}
use Rattle.member.specs.Steps.{Answer, site_step}
use Rattle.step_calls.specs.StepCalls.{site_bytes, member_at, StepLeft, step_call}

-- the site's bytes are inside the layout and hold the step's site; the row's, with a 2 before them, deliver the step's row
pub record Crosses (left : StepLeft) (a : Answer) : Type 0 where
  pub long : length left.site ≡ site_bytes
  pub inside : site_in_layout left.site 0 ≡ true
  pub same-site : site_at left.site 0 ≡ a.site
  pub delivers : (a.row.kind ≡ 0 → ⊥) → read_order (2 ∷ left.row) ≡ Ok Order·.Deliver
  pub same_row : (a.row.kind ≡ 0 → ⊥) → row_in (2 ∷ left.row) ≡ a.row

-- an accepted step
abbrev pub StepCrosses : Type 0
StepCrosses =
    (terms site command row result : List ℕ) → (step_call terms site command row result).number ≡ 0 →
    Crosses (step_call terms site command row result) (site_step (member_at terms) (site_at site 0) command)
