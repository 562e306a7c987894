use Rattle.std.proofs.Common.{rules, sym, ◌∙◌}
use Rattle.member.specs.laws.StepLaws.{valid-few}
use Rattle.member_step.proofs.steps.site_step.Goals as goal

pub perform-requires : goal.perform-requires
perform-requires c =
    (search rules, valid-few _ _ (sym c.valid_member.ensures ∙ c.if-not-valid_member.false), sym c.in_ok-order.ensures.heard)
