use Rattle.std.proofs.Common.{◌≡◌, ◌≤◌, ◌*◌}
use Rattle.weights.specs.Weights.{weight_of}
use Rattle.vector.specs.Vector.{weigh}
use Rattle.vector.proofs.vector.weigh.Given as goal

abbrev pub invariant-loop-k : goal.invariant-loop-k
invariant-loop-k l = (l.total ≤ 255 * l.k) × (l.total ≡ weigh (weight_of l.weights) l.k l.codes l.code)
