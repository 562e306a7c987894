use Rattle.std.proofs.Common.{arith, ◌≡◌, ◌∙◌, ltb}
use Rattle.choice.specs.laws.Cases.{by_test}
use Rattle.merging.specs.Merging.{rises}
use Rattle.merging.specs.laws.Tops.{rises-above}
use Rattle.merging.proofs.news.rise.Goals as goal

pub returns : goal.returns
returns c =
    let e : rises c.args.held c.args.said ≡ ltb c.top.result c.args.said = rises-above c.args.held c.args.said (omega arith) ∙ rw c.top.ensures in
    by_test (ltb c.top.result c.args.said)
    (λ q. let one : c.from.result ≡ 1 = rw q at c.from.ensures in (rw (e, q) one, omega arith))
    (λ q. let none : c.from.result ≡ 0 = rw q at c.from.ensures in (rw (e, q) none, omega arith))
