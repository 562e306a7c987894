use Rattle.std.proofs.Common.{rules}
use Rattle.world.specs.Valid.{valid_group}
use Rattle.validity.specs.laws.Limits.{noughts_valid}
use Rattle.validity.proofs.limits.Limits.valid_group.Goals as goal

pub returns-in-None : goal.returns-in-None
unfolding valid_group
returns-in-None c = rw c.in-None.is (noughts_valid c.args.joined _ (search rules) c.eq.ensures)
