use Rattle.std.proofs.Common.{◌≡◌}
use Rattle.vector.specs.Vector.{lowest_outcome}
use Rattle.vector.proofs.vector.lowest_outcome.Given as goal

abbrev pub invariant-loop-code : goal.invariant-loop-code
invariant-loop-code l = lowest_outcome l.code-index l.fn.codes ≡ 0
