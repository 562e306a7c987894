-- The check behind 17, for a world handed in to one command or to the report.
use Rattle.std.specs.Prelude.{ℕ, zero, suc, Bool, true, List, leb, eqb, get_or}
use Rattle.choice.specs.Choice.{both}
use Rattle.vector.specs.Vector.{valid_vector}
use Rattle.site.specs.declared.Group.{Group}
use Rattle.site.specs.declared.Group.TheVariants as Group·
use Rattle.site.specs.declared.Site.{Site}
use Rattle.site.specs.State.{state_of, code_of}
use Rattle.world.specs.declared.World.{World}
use Rattle.world.specs.Sizes.{max_rows, max_news, sizes_number}
use Rattle.world.specs.Worlds.{site_of}

-- a group record's vector: codes to 5, entries from n up 0, own entry its group; all 0 with no group
unfoldable pub valid_group : Group → ℕ → ℕ → List ℕ → Bool
valid_group Group·.None own n v = valid_vector 0 v
valid_group Group·.Commit own n v = both (valid_vector n v) (eqb (get_or v own 0) 2)
valid_group Group·.Abort own n v = both (valid_vector n v) (eqb (get_or v own 0) 3)

-- a site: codes to 5, entries from n up 0, own entry its state; its group record
unfoldable pub valid_site : ℕ → ℕ → Site → Bool
valid_site own n s =
    both (valid_vector n s.codes)
    (both (eqb (get_or s.codes own 0) (code_of (state_of s))) (valid_group s.group own n s.joined))

-- the sites below k
unfoldable pub valid_sites : ℕ → World → Bool
valid_sites zero w = true
valid_sites (suc k) w = both (valid_sites k w) (valid_site k w.n (site_of w k))

-- sizes, row count, news, and the n sites
unfoldable pub valid_world : World → Bool
valid_world w =
    both (eqb (sizes_number w.n w.weights w.commit w.abort w.willing) 0)
    (both (leb w.rows max_rows) (both (leb w.news max_news) (valid_sites w.n w)))
