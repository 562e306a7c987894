-- The sixteen sites read, one by one.
use Rattle.std.specs.Prelude.{ℕ, ◌<◌, false, List, ◌≡◌, length, get_or}
use Rattle.std.proofs.Common.{sym, ◌∙◌, arith}
use Rattle.std.proofs.lemmas.List.{ext_get_or}
use Rattle.site.specs.declared.Site.{Site}
use Rattle.site.specs.Fields.{blank_site}
use Rattle.layout.specs.Layout.{site_place, site_at, sites_from}
use Rattle.layout.proofs.laws.LayoutLaws.{sites_from-length, sites_from-at}

pub sites_read :
    (b : List ℕ) (sites : List Site) → length sites ≡ 16 →
    ((k : ℕ) (d : Site) → k < 16 → get_or sites k d ≡ site_at b (site_place k)) → sites ≡ sites_from 16 b
sites_read b sites full each =
    ext_get_or (blank_site false) sites (sites_from 16 b) (full ∙ sym (sites_from-length 16 b))
    (λ i h. let few : i < 16 = omega (arith, full) in
    each i (blank_site false) few ∙ sym (sites_from-at 16 b i (blank_site false) few (omega arith)))
