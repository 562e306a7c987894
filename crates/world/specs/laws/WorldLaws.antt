-- What a world that passes 17 is known to be, read off the tests.
use Rattle.std.specs.Prelude.{ℕ, zero, suc, ◌≤◌, ◌<◌, Bool, true, false, ◌≡◌, refl, leb, eqb, length}
use Rattle.std.proofs.Common.{arith, leb-true, eqb-true, le-leb, eq-eqb}
use Rattle.choice.specs.Choice.{both}
use Rattle.choice.specs.laws.ChoiceLaws.{both-on, both_first, both-second, set_ind}
use Rattle.site.specs.declared.Site.{Site}
use Rattle.site.specs.Fields.{blank_site}
use Rattle.world.specs.declared.World.{World}
use Rattle.world.specs.Sizes.{max_rows, max_news, sizes_number}
use Rattle.world.specs.laws.SizesLaws.{Sized, sized}
use Rattle.world.specs.Worlds.{site_of, with_site}
use Rattle.world.specs.Valid.{valid_site, valid_sites, valid_world}
use Rattle.choice.specs.laws.Cases.{by_equal}

-- the four parts of 17
pub record ValidParts (w : World) : Type 0 where
  pub sizes : sizes_number w.n w.weights w.commit w.abort w.willing ≡ 0
  pub rows : w.rows ≤ max_rows
  pub news : w.news ≤ max_news
  pub sites : (k : ℕ) → k < w.n → valid_site k w.n (site_of w k) ≡ true

-- the sites below k, one by one
pub sites-each : (k : ℕ) (w : World) → valid_sites k w ≡ true → (j : ℕ) → j < k → valid_site j w.n (site_of w j) ≡ true
unfolding valid_sites
sites-each zero w e j h = absurd (omega arith)
sites-each (suc k) w e j h =
    by_equal j k (λ q. rw q (both-second (valid_sites k w) (valid_site k w.n (site_of w k)) e))
    (λ q. sites-each k w (both_first (valid_sites k w) (valid_site k w.n (site_of w k)) e) j (omega arith))

pub sites-all : (k : ℕ) (w : World) → ((j : ℕ) → j < k → valid_site j w.n (site_of w j) ≡ true) → valid_sites k w ≡ true
unfolding valid_sites
sites-all zero w h = refl
sites-all (suc k) w h =
    both-on (valid_sites k w) (valid_site k w.n (site_of w k)) (sites-all k w (λ j l. h j (omega arith))) (h k (omega arith))

pub valid_parts : (w : World) → valid_world w ≡ true → ValidParts w
unfolding valid_world
valid_parts w e =
    let fit : Bool = eqb (sizes_number w.n w.weights w.commit w.abort w.willing) 0 in
    let few : Bool = leb w.rows max_rows in
    let low : Bool = leb w.news max_news in
    let rest : both few (both low (valid_sites w.n w)) ≡ true = both-second fit (both few (both low (valid_sites w.n w))) e in
    let last : both low (valid_sites w.n w) ≡ true = both-second few (both low (valid_sites w.n w)) rest in
    record {
      sizes =
          eqb-true (sizes_number w.n w.weights w.commit w.abort w.willing) 0
          (both_first fit (both few (both low (valid_sites w.n w))) e);
      rows = leb-true w.rows max_rows (both_first few (both low (valid_sites w.n w)) rest);
      news = leb-true w.news max_news (both_first low (valid_sites w.n w) last);
      sites = sites-each w.n w (both-second low (valid_sites w.n w) last);
    }

pub valid-whole : (w : World) → ValidParts w → valid_world w ≡ true
unfolding valid_world
valid-whole w p =
    both-on (eqb (sizes_number w.n w.weights w.commit w.abort w.willing) 0)
    (both (leb w.rows max_rows) (both (leb w.news max_news) (valid_sites w.n w))) (eq-eqb _ 0 p.sizes)
    (both-on (leb w.rows max_rows) (both (leb w.news max_news) (valid_sites w.n w))
    (le-leb w.rows max_rows p.rows)
    (both-on (leb w.news max_news) (valid_sites w.n w) (le-leb w.news max_news p.news)
    (sites-all w.n w p.sites)))

-- the sizes of a world that passes 17
pub valid-sized : (w : World) → valid_world w ≡ true → Sized w.n w.weights w.commit w.abort w.willing
valid-sized w e = sized w.n w.weights w.commit w.abort w.willing (valid_parts w e).sizes

-- a claim of a site of the world after site `own` is put back
pub put_ind :
    (P : Site → Type 0) (w : World) (own : ℕ) (s : Site) (j : ℕ) → own < length w.sites → (j ≡ own → P s) →
    ((j ≡ own → ⊥) → P (site_of w j)) → P (site_of (with_site own s w) j)
unfolding site_of with_site
put_ind P w own s j room f g = set_ind P w.sites own j s (blank_site false) room f g
