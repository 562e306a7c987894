use Rattle.std.proofs.Common.{rules, ◌≡◌, ◌∙◌, take, eqb}
use Rattle.std.specs.Prelude.{count_by}
use Rattle.vector.specs.laws.VectorLaws.{count-entries}
use Rattle.vector.proofs.vector.count.Goals as goal

pub returns : goal.returns
returns c =
    let e : c.count.result ≡ count_by (λ held. eqb held c.args.code) (take c.args.n c.args.codes) = search rules in
    e ∙ count-entries c.args.codes c.args.n c.args.code (search rules)
