use Rattle.std.proofs.Common.{rules, ◌≡◌, ◌∙◌, sum_by}
use Rattle.std.proofs.iter.runs.Sources.{sums}
use Rattle.choice.specs.laws.Chains.{sum-at}
use Rattle.merging.proofs.news.total.Goals as goal

pub sum-sum-requires-clause-fits : goal.sum-sum-requires-clause-fits
sum-sum-requires-clause-fits c = search (rules, sums)

pub returns : goal.returns
returns c =
    let e : c.sum-sum.result ≡ sum_by (λ x. x) c.args.rose = search rules in
    c.from.ensures ∙ e ∙ sum-at (λ x. x) 0 c.args.rose 16 (search rules)
