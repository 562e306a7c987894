use Rattle.std.proofs.Common.{rules, arith, ◌≡◌}
use Rattle.weights.specs.Weights.{weight_of, total_weight, largest_weight}
use Rattle.weights.specs.laws.WeightLaws.{largest-of, largest_sum}
use Rattle.weights.proofs.sums.largest_weight.Goals as goal

pub returns : goal.returns
unfolding total_weight largest_weight
returns c =
    let e : c.from.result ≡ largest_weight c.args.weights = largest-of c.args.weights c.from.result (search rules) (search rules) (search rules) in
    (e, omega (arith, e, largest_sum (weight_of c.args.weights) 16))
