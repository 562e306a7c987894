use Rattle.std.proofs.Common.{rules, ◌≡◌, ◌∙◌, replicate}
use Rattle.weights.specs.Weights.{even_weights}
use Rattle.weights.specs.laws.WeightLaws.{ones_first}
use Rattle.weights.proofs.made.even_weights.Goals as goal

pub returns : goal.returns
unfolding even_weights
returns c =
    let e : c.fill.new.self ≡ replicate c.few_sites.result 1 = search rules in
    rw e (ones_first c.few_sites.result c.few_sites.ensures.0) ∙ c.few_sites.ensures.1 (λ _. 1)
