use Rattle.std.specs.Prelude.{ℕ, Bool, refl}
use Rattle.std.proofs.Common.{rules}
use borrow.Author.Tests.{tests}
use Rattle.std.proofs.lemmas.Iterator.{YieldsList-from_range}
use Rattle.std.proofs.lemmas.Iterator.Search.{all_from_yields_List}
use Rattle.choice.specs.laws.EachPlace.{all_numbered}
use Rattle.layout.specs.Layout.{site_place, site_in_layout, sites_in_layout}
use Rattle.inside.proofs.sites_in_layout.Goals as goal

pub returns : goal.returns
unfolding sites_in_layout
returns c =
    let test : ℕ → Bool = λ k. site_in_layout c.args.bytes.now (site_place k) in
    all_numbered test 16 (λ k. sites_in_layout k c.args.bytes.now) _ refl (λ _ _. refl)
    (all_from_yields_List test _ _ _ c.all.ensures.ran (YieldsList-from_range 0 16 16 refl refl) (λ x b q k. search (rules, tests)))
