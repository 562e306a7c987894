use Rattle.std.specs.Prelude.{ℕ, Bool, refl}
use Rattle.std.proofs.Common.{rules, arith}
use borrow.Author.Tests.{tests}
use Rattle.std.proofs.lemmas.Iterator.{YieldsList-from_range}
use Rattle.std.proofs.lemmas.Iterator.Search.{all_from_yields_List}
use Rattle.choice.specs.laws.EachPlace.{all_numbered}
use Rattle.world.specs.Valid.{valid_site, valid_sites}
use Rattle.layout.specs.Layout.{site_place, site_at, world_at}
use Rattle.decode.specs.laws.ValidLaws.{one_more}
use Rattle.decode.proofs.valid.valid_sites_at.Goals as goal

pub returns : goal.returns
returns c =
    let b = c.args.bytes.now in
    let n = c.args.n in
    let test : ℕ → Bool = λ k. valid_site k n (site_at b (site_place k)) in
    all_numbered test n (λ k. valid_sites k (world_at b)) _ (unfold valid_sites in refl) (λ k h. one_more b k n (omega (arith, c.requires.0)) c.requires.2)
    (all_from_yields_List test _ _ _ c.all.ensures.ran (YieldsList-from_range 0 n n refl (omega arith)) (λ x b q k. search (rules, tests)))
