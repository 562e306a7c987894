-- ONE SITE WRITTEN BACK: where bytes are inside the layout, the world that they hold, with one site, the row count and the news changed,
-- is written by writing that site and those counts. All else is there already.
use Prim.Native.Nat.{ℕ, zero, suc, ◌+◌, ◌≤◌, ◌<◌}
use Rattle.std.specs.Prelude.{true, false, List, ◌≡◌, get_or}
use Rattle.std.proofs.Math.Path.{refl}
use Rattle.std.proofs.Common.{sym, ◌∙◌, mod-eq_of_lt, arith, get_or-set_same, get_or-set_other}
use Rattle.choice.specs.laws.Cases.{by_equal}
use Rattle.code_bytes.specs.laws.CodeBytesLaws.{codes_from-same}
use Rattle.site.specs.declared.Site.{Site}
use Rattle.site.specs.Fields.{blank_site}
use Rattle.world.specs.declared.World.{World}
use Rattle.world.specs.Worlds.{site_of, with_site, with_rows, with_news}
use Rattle.layout.specs.Numbers.{put_number}
use Rattle.layout.specs.Layout.{layout_number, site_place, put_numbers, put_head, put_site, put_sites, put_world, site_at, world_at, site_in_layout, in_layout}
use Rattle.layout.specs.laws.NumberLaws.{put_number_else}
use Rattle.layout.specs.laws.SiteLaws.{put_site_else, site_at-same, zeros_held, codes_held, site-written-back, most-same, site_in_layout-same}
use Rattle.layout.proofs.laws.LayoutLaws.{byte_held, word_held, InsideParts, inside_parts, sites-each, site_of_lem, read-sites}

-- the world in the bytes, changed
unfoldable changed_world : List ℕ → ℕ → Site → ℕ → ℕ → World
changed_world b i s rows news = with_news news (with_rows rows (with_site i s (world_at b)))

-- the bytes with both counts written
unfoldable put_counts : List ℕ → ℕ → ℕ → List ℕ
put_counts b rows news = put_number 4 (put_number 2 b 8 rows) 10 news

-- the changed site is the one put, any other is the one that lies in the bytes

site-here : (b : List ℕ) (i : ℕ) (s : Site) (rows news : ℕ) → i < 16 → site_of (changed_world b i s rows news) i ≡ s
unfolding site_of changed_world with_news with_rows with_site
site-here b i s rows news h = get_or-set_same (world_at b).sites i s (blank_site false) (rw read-sites h)

site-there :
    (b : List ℕ) (i : ℕ) (s : Site) (rows news k : ℕ) → k < 16 → (k ≡ i → ⊥) →
    site_of (changed_world b i s rows news) k ≡ site_at b (site_place k)
unfolding site_of changed_world with_news with_rows with_site
site-there b i s rows news k h other = get_or-set_other (world_at b).sites i k s (blank_site false) other ∙ site_of_lem k b h

-- a site that lies in the bytes already
site-kept :
    (b d : List ℕ) (at : ℕ) → site_in_layout b at ≡ true → ((j : ℕ) → j < 40 → get_or d (at + j) 0 ≡ get_or b (at + j) 0) →
    put_site d at (site_at b at) ≡ d
site-kept b d at e same =
    rw (sym (site_at-same d b at same)) (site-written-back d at (site_in_layout-same d b at same ∙ e))

-- the counts lie before the last two bytes of the head's numbers
counts_apart : (b : List ℕ) (rows news p : ℕ) → 14 ≤ p → get_or (put_counts b rows news) p 0 ≡ get_or b p 0
unfolding put_counts
counts_apart b rows news p h =
    put_number_else 4 (put_number 2 b 8 rows) 10 news p (λ i l e. omega arith)
    ∙ put_number_else 2 b 8 rows p (λ i l e. omega arith)

head-changed :
    (b : List ℕ) (i : ℕ) (s : Site) (rows news : ℕ) → InsideParts b → ((j : ℕ) → get_or b j 0 < 256) →
    put_head b (changed_world b i s rows news) ≡ put_counts b rows news
unfolding put_head put_numbers put_counts changed_world with_news with_rows with_site world_at
head-changed b i s rows news parts small =
    rw
    (byte_held b 0 layout_number (sym parts.number), byte_held b 1 (get_or b 1 0) (mod-eq_of_lt (small 1)), word_held b 2 small, word_held b 4 small, word_held b 6 small, zeros_held 2 (put_counts b rows news) 14 (most-same 2 (put_counts b rows news) b 14 0 (λ j l. counts_apart b rows news (14 + j) (omega arith)) ∙ parts.zeros), codes_from-same 16 b (put_counts b rows news) 16 16 (λ j l. sym (counts_apart b rows news (16 + j) (omega arith))))
    (codes_held 16 (put_counts b rows news) 16 (omega arith))

module _ (b : List ℕ) (i : ℕ) (s : Site) (rows news : ℕ) (small : i < 16) (parts : InsideParts b) where
  -- the sites before the changed one
  sites-before :
      (k : ℕ) → k ≤ i →
      put_sites k (put_counts b rows news) (changed_world b i s rows news) ≡ put_counts b rows news
  unfolding put_sites site_place
  sites-before zero h = refl
  sites-before (suc k) h =
      rw (sites-before k (omega arith), site-there b i s rows news k (omega arith) (λ e. omega arith))
      (site-kept b (put_counts b rows news) (site_place k) (sites-each 16 b parts.sites k (omega arith))
      (λ j l. counts_apart b rows news (site_place k + j) (omega arith)))

  -- and those after it
  sites-after :
      (k : ℕ) → i < k → k ≤ 16 →
      put_sites k (put_counts b rows news) (changed_world b i s rows news)
      ≡ put_site (put_counts b rows news) (site_place i) s
  unfolding put_sites site_place
  sites-after zero h most = absurd (omega arith)
  sites-after (suc k) h most =
      by_equal k i
      (λ e. rw (e, sites-before i (omega arith), site-here b i s rows news small))
      (λ e.
      rw (sites-after k (omega arith) (omega arith), site-there b i s rows news k (omega arith) e)
      (site-kept b (put_site (put_counts b rows news) (site_place i) s) (site_place k) (sites-each 16 b parts.sites k (omega arith))
      (λ j l.
      put_site_else (put_counts b rows news) (site_place i) s (site_place k + j) (λ m n q. e (omega arith))
      ∙ counts_apart b rows news (site_place k + j) (omega arith))))

-- ONE SITE WRITTEN BACK
pub change_written :
    (b : List ℕ) (i : ℕ) (s : Site) (rows news : ℕ) → i < 16 → in_layout b ≡ true → ((j : ℕ) → get_or b j 0 < 256) →
    put_world b (with_news news (with_rows rows (with_site i s (world_at b))))
    ≡ put_site (put_number 4 (put_number 2 b 8 rows) 10 news) (site_place i) s
unfolding put_world changed_world put_counts
change_written b i s rows news h e small =
    rw (head-changed b i s rows news (inside_parts b e) small) (sites-after b i s rows news h (inside_parts b e) 16 h (omega arith))
