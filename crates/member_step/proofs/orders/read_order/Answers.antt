use Rattle.std.proofs.Common.{ap, ◌∙◌}
use Rattle.member.specs.Orders.{heard_number}
use Rattle.member_step.specs.laws.OrderLaws.{heard_number_lem}
use Rattle.member_step.proofs.orders.read_order.Goals as goal

pub returns-clause-number : goal.returns-clause-number
returns-clause-number c = ap heard_number c.hear.ensures ∙ heard_number_lem c.args.bytes.now
