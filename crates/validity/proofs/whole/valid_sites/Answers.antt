use Rattle.std.specs.Prelude.{ℕ, Bool, refl}
use Rattle.std.proofs.Common.{rules, arith}
use borrow.Author.Tests.{tests}
use Rattle.std.proofs.lemmas.Iterator.{YieldsList-from_range}
use Rattle.std.proofs.lemmas.Iterator.Search.{all_from_yields_List}
use Rattle.choice.specs.laws.EachPlace.{all_numbered}
use Rattle.world.specs.Valid.{valid_site, valid_sites}
use Rattle.world.specs.Worlds.{site_of}
use Rattle.validity.proofs.whole.valid_sites.Goals as goal

pub returns : goal.returns
unfolding valid_sites
returns c =
    let w = c.args.world in
    let test : ℕ → Bool = λ k. valid_site k w.n (site_of w k) in
    all_numbered test w.n (λ k. valid_sites k w) _ refl (λ _ _. refl)
    (all_from_yields_List test _ _ _ c.all.ensures.ran (YieldsList-from_range 0 w.n w.n refl (omega arith)) (λ x b q k. search (rules, tests)))
