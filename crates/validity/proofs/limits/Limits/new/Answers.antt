use Rattle.std.proofs.Common.{rules}
use Rattle.validity.specs.laws.Limits.{limits_filled}
use Rattle.validity.proofs.limits.Limits.new.Goals as goal

pub invariant_of-result : goal.invariant_of-result
invariant_of-result c = record { made = limits_filled _ _ c.requires (search rules) }
