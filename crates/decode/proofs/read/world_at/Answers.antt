use Rattle.std.specs.Prelude.{◌≡◌}
use Rattle.std.proofs.Common.{rules, arith}
use Rattle.choice.specs.laws.EachPlace.{made_placed}
use Rattle.layout.specs.Layout.{site_place, site_at, sites_from, world_at}
use Rattle.decode.specs.laws.ReadLaws.{sites_read}
use Rattle.decode.proofs.read.world_at.Goals as goal

pub returns : goal.returns
unfolding world_at
returns c =
    let b = c.args.bytes.now in
    let sites : c.from_fn.result ≡ sites_from 16 b = sites_read b _ c.from_fn.ensures.items.long
    (λ k d h. made_placed _ (λ k. site_at b (site_place k)) _ _ 0 16 (λ k y q l. search rules) c.from_fn.ensures.items.each k d (omega arith) (omega arith)) in
    rw (sites, c.sizes_at-sizes.ensures, c.word_at.ensures, c.long_at.ensures)
