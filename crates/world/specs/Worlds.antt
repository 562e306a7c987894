-- Worlds: the fresh world and the world of zeros; a world with one field changed.
use Rattle.std.specs.Prelude.{ℕ, zero, suc, Bool, true, false, List, eqb, get_or, set, replicate}
use Rattle.choice.specs.Choice.{pick}
use Rattle.bits.specs.Bits.{has_bit}
use Rattle.site.specs.declared.Site.{Site}
use Rattle.site.specs.Fields.{blank_site}
use Rattle.site.specs.declared.CommitQuorum.{CommitQuorum}
use Rattle.site.specs.declared.AbortQuorum.{AbortQuorum}
use Rattle.world.specs.declared.check.Sizes.{Sizes}
use Rattle.world.specs.declared.World.{World}
use Rattle.world.specs.Sizes.{sizes_number}

-- every site down, subordinate, log empty
unfoldable pub down_sites : List Site
down_sites = replicate 16 (blank_site false)

-- the world of zeros
unfoldable pub zero_world : World
zero_world =
    record {
      sites = down_sites;
      n = 0;
      commit = record { 0 = 0 };
      abort = record { 0 = 0 };
      willing = 0;
      weights = replicate 16 0;
      rows = 0;
      news = 0;
    }

-- the sites below n up, the others down
unfoldable pub fresh_sites : ℕ → List Site
fresh_sites zero = down_sites
fresh_sites (suc k) = set (fresh_sites k) k (blank_site true)

-- the maker: a fresh world, or the world of zeros for sizes that break 3, 21, 4 or 5
unfoldable pub fresh_world : ℕ → List ℕ → CommitQuorum → AbortQuorum → ℕ → World
fresh_world n weights c a willing =
    pick (eqb (sizes_number n weights c a willing) 0)
    (record {
      sites = fresh_sites n;
      n = n;
      commit = c;
      abort = a;
      willing = willing;
      weights = weights;
      rows = 0;
      news = 0;
    })
    zero_world

-- the sizes of a world
abbrev pub sizes_held : World → Sizes
sizes_held w = record { n = w.n; weights = w.weights; commit = w.commit; abort = w.abort; willing = w.willing }

-- a site of a world
unfoldable pub site_of : World → ℕ → Site
site_of w i = get_or w.sites i (blank_site false)

-- the site is willing
unfoldable pub is_willing : World → ℕ → Bool
is_willing w i = has_bit w.willing i

unfoldable pub with_site : ℕ → Site → World → World
with_site i s w =
    record {
      sites = set w.sites i s;
      n = w.n;
      commit = w.commit;
      abort = w.abort;
      willing = w.willing;
      weights = w.weights;
      rows = w.rows;
      news = w.news;
    }

unfoldable pub with_rows : ℕ → World → World
with_rows k w =
    record {
      sites = w.sites;
      n = w.n;
      commit = w.commit;
      abort = w.abort;
      willing = w.willing;
      weights = w.weights;
      rows = k;
      news = w.news;
    }

unfoldable pub with_news : ℕ → World → World
with_news k w =
    record {
      sites = w.sites;
      n = w.n;
      commit = w.commit;
      abort = w.abort;
      willing = w.willing;
      weights = w.weights;
      rows = w.rows;
      news = k;
    }
