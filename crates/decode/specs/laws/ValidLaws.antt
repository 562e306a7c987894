-- The check behind 17, part by part, of a world that lies in bytes.
use Rattle.std.specs.Prelude.{ℕ, suc, ◌<◌, Bool, true, false, List, ◌≡◌, refl, leb, eqb, get_or}
use Rattle.choice.specs.Choice.{both}
use Rattle.code_bytes.specs.CodeBytes.{codes_from}
use Rattle.world.specs.Sizes.{max_rows, max_news, sites_fit, sizes_number}
use Rattle.world.specs.Valid.{valid_site, valid_sites, valid_world}
use Rattle.validity.specs.laws.LimitLaws.{valid_world-by}
use Rattle.word.specs.Words.{word_at}
use Rattle.layout.specs.Numbers.{long_at}
use Rattle.layout.specs.Layout.{site_place, site_at, world_at}
use Rattle.layout.proofs.laws.LayoutLaws.{site_of_lem}

read-n : (b : List ℕ) → (world_at b).n ≡ get_or b 1 0
unfolding world_at
read-n b = refl

-- one site more, looked at where it lies
pub one_more :
    (b : List ℕ) (k n : ℕ) → k < 16 → n ≡ get_or b 1 0 →
    valid_sites (suc k) (world_at b) ≡ both (valid_sites k (world_at b)) (valid_site k n (site_at b (site_place k)))
unfolding valid_sites
one_more b k n small e = rw (site_of_lem, read-n, e) refl

-- sizes, row count and news
unfoldable pub valid_head : List ℕ → Bool
valid_head b =
    both (eqb (sizes_number (get_or b 1 0) (codes_from 16 b 16) (record { 0 = word_at b 2 }) (record { 0 = word_at b 4 }) (word_at b 6)) 0)
    (both (leb (word_at b 8) max_rows) (leb (long_at b 10) max_news))

by_parts : (b : List ℕ) → valid_world (world_at b) ≡ both (valid_head b) (valid_sites (get_or b 1 0) (world_at b))
unfolding world_at valid_head
by_parts b = valid_world-by (world_at b)

-- each way out: n, the sites, then the head

both-none : (a : Bool) → false ≡ both a false
both-none true = refl
both-none false = refl

both-all : (a : Bool) → a ≡ both a true
both-all true = refl
both-all false = refl

pub unfit_sites : (b : List ℕ) (n : ℕ) → n ≡ get_or b 1 0 → sites_fit n ≡ false → false ≡ valid_world (world_at b)
unfolding valid_head sizes_number
unfit_sites b n e unfit =
    let unfit-n : sites_fit (get_or b 1 0) ≡ false = rw e at unfit in
    rw (by_parts b, unfit-n)

pub bad_sites : (b : List ℕ) (n : ℕ) → n ≡ get_or b 1 0 → valid_sites n (world_at b) ≡ false → false ≡ valid_world (world_at b)
bad_sites b n e bad = rw (by_parts b, ← e, bad) (both-none (valid_head b))

pub good-sites : (b : List ℕ) (n : ℕ) → n ≡ get_or b 1 0 → valid_sites n (world_at b) ≡ true → valid_head b ≡ valid_world (world_at b)
good-sites b n e good = rw (by_parts b, ← e, good) (both-all (valid_head b))

-- each way out, for the check of the whole
pub ruleset ways_out = (unfit_sites, bad_sites, good-sites)
