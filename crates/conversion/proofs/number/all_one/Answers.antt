use Rattle.std.proofs.Common.{rules}
use Rattle.std.specs.Prelude.{eqb}
use Rattle.choice.specs.laws.Chains.{all-first}
use Rattle.weights.specs.Weights.{weight_of}
use Rattle.conversion.specs.Conversion.{all_one}
use Rattle.conversion.proofs.number.all_one.Goals as goal

pub returns : goal.returns
unfolding all_one weight_of
returns c = all-first (λ x. eqb x 1) c.args.weights c.args.n c.all.result (search rules) (search rules)
