use mathlib.Core.Path.{sym, ◌∙◌}
use borrow.Author.Tests.{eqb-true}
use Rattle.choice.specs.laws.ChoiceLaws.{both_first}
use Rattle.world.specs.laws.SizesLaws.{sized}
use Rattle.validity.specs.laws.LimitLaws.{valid_world-by}
use Rattle.validity.proofs.whole.valid_world.Goals as goal

pub valid_sites-requires : goal.valid_sites-requires
valid_sites-requires c =
    let head = rw c.sizes.ensures at c.valid_head.ensures in
    (sized _ _ _ _ _ (eqb-true _ 0 (both_first _ _ (sym head ∙ c.if-valid_head.true)))).high

pub returns-then-valid_head : goal.returns-then-valid_head
returns-then-valid_head c =
    let head = rw c.sizes.ensures at c.valid_head.ensures in
    simp (valid_world-by c.args.world, ← head, c.if-valid_head.true) c.valid_sites.ensures

pub returns-else-valid_head : goal.returns-else-valid_head
returns-else-valid_head c =
    let head = rw c.sizes.ensures at c.valid_head.ensures in
    simp (valid_world-by c.args.world, ← head, c.if-valid_head.false)
