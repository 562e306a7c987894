use Rattle.std.proofs.Common.{rules, ◌≡◌, ap}
use Rattle.weights.specs.Weights.{weight_of, even_weights}
use Rattle.weights.specs.laws.WeightLaws.{even_valid, total-is, largest-is}
use Rattle.weights.proofs.checked.measured.Goals as goal

pub returns-then-eq-clause-weighed : goal.returns-then-eq-clause-weighed
returns-then-eq-clause-weighed c =
    let e : c.args.weights ≡ even_weights c.args.n = search rules in
    rw (
      even_valid _ _ c.requires.0 c.requires.1 (λ i h. ap (λ w. weight_of w i) e),
      total-is _ _ c.requires.0 c.requires.1 (λ i h. ap (λ w. weight_of w i) e),
      largest-is _ _ c.requires.0 c.requires.1 (λ i h. ap (λ w. weight_of w i) e),
    )
