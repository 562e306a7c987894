use Rattle.std.specs.Prelude.{ℕ, ◌+◌, get_or, ltb}
use Rattle.std.proofs.Common.{rules, arith}
use Rattle.choice.specs.Choice.{pick}
use Rattle.choice.specs.laws.ChoiceLaws.{tests}
use Rattle.choice.specs.laws.EachPlace.{made_placed}
use Rattle.header.specs.laws.Listed.{weights_made}
use Rattle.header.proofs.editions.listed_weights.Goals as goal

pub returns : goal.returns
returns c =
    let f : ℕ → ℕ = λ i. get_or c.args.list.now (8 + i) 0 in
    weights_made f c.args.n _ c.from_fn.ensures.items.long
    (λ k d h. made_placed _ (λ k. pick (ltb k c.args.n) (f k) 0) _ _ 0 16 (λ k y q l. search (rules, tests)) c.from_fn.ensures.items.each k d (omega arith) (omega arith))
