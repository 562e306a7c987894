use Rattle.std.proofs.Common.{rules, arith, ◌≡◌, ◌∙◌, ◌<◌, sum_by, ℕ, get_or}
use Rattle.std.proofs.iter.runs.Sources.{sums}
use Rattle.choice.specs.laws.Chains.{sum-at}
use Rattle.weights.specs.Weights.{weight_of, total_weight}
use Rattle.weights.specs.laws.WeightLaws.{total-most}
use Rattle.weights.proofs.sums.total_weight.Goals as goal

pub sum-requires-clause-fits : goal.sum-requires-clause-fits
sum-requires-clause-fits c = search (rules, sums)

pub returns : goal.returns
unfolding total_weight weight_of
returns c =
    let e : c.sum.result ≡ sum_by (λ x. x) c.args.weights = search rules in
    let q : c.sum.result ≡ total_weight c.args.weights = e ∙ sum-at (λ x. x) 0 c.args.weights 16 (search rules) in
    let few : (i : ℕ) → get_or c.args.weights i 0 < 256 = search rules in
    (q, omega (arith, q, total-most c.args.weights (λ i h. omega (arith, few i))))
