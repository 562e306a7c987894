use Rattle.std.proofs.Common.{sym, ◌∙◌, arith}
use Rattle.refusals.specs.laws.RefusalLaws.{answer-ok}
use Rattle.world.specs.laws.SizesLaws.{sized}
use Rattle.member_step.proofs.valid.valid_member.Goals as goal

pub new-requires : goal.new-requires
new-requires c = (sized _ _ _ _ _ (sym c.check.ensures ∙ answer-ok c.check.result (sym c.is_err.ensures.value ∙ c.if-is_err.false))).high

pub valid_site-requires : goal.valid_site-requires
valid_site-requires c =
    let few = (sized _ _ _ _ _ (sym c.check.ensures ∙ answer-ok c.check.result (sym c.is_err.ensures.value ∙ c.if-is_err.false))).high in
    omega arith
