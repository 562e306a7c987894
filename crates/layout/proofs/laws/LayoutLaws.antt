-- THE ROUND TRIPS: a world written and read is the same world; bytes inside the layout, read and written again, are the same bytes.
use Rattle.std.specs.Prelude.{ℕ, zero, suc, ◌+◌, ◌%◌, ◌≤◌, ◌<◌, true, false, List, ◌≡◌, refl, eqb, length, get_or}
use Rattle.std.proofs.Math.Path.{sym}
use Rattle.std.proofs.Common.{◌∙◌, add-zero, add_assoc, arith, length-set, eqb-true, eq-eqb}
use Rattle.code_bytes.specs.CodeBytes.{codes_from}
use Rattle.code_bytes.specs.laws.CodeBytesLaws.{put_codes-length, put_codes_else, put_codes-at, codes_from-length, codes_from-at, codes_from-same}
use Rattle.std.proofs.Math.Nat.{mod-eq_of_lt}
use Rattle.std.proofs.Math.Seq.{ext_get_or}
use Rattle.choice.specs.Choice.{both}
use Rattle.choice.specs.laws.ChoiceLaws.{both-on, both_first, both-second, set_ind}
use Rattle.choice.specs.laws.Cases.{by_equal}
use Rattle.site.specs.declared.Site.{Site}
use Rattle.site.specs.Fields.{blank_site}
use Rattle.world.specs.declared.World.{World}
use Rattle.world.specs.Worlds.{down_sites, site_of}
use Rattle.word.specs.Words.{word_at}
use Rattle.layout.specs.Numbers.{shifted, put_number, long_at}
use Rattle.layout.specs.laws.NumberLaws.{put_number-length, put_number_else, put_number-at, put_number-same, word_written, word_same, word_else, long-written, long_same}
use Rattle.layout.specs.Layout.{site_place, put_numbers, put_head, put_site, put_sites, put_world, site_at, sites_from, world_at, at_most, site_in_layout, sites_in_layout, in_layout, world_bytes, layout_number}
use Rattle.layout.specs.Claims.{Fits, WorldReadBack, BytesWrittenBack, WrittenInside}
use Rattle.layout.specs.laws.SiteLaws.{put_site-length, put_site_else, site_at-same, site-read-back, zeros_held, codes_held, site-written-back, most-all, zero-at, site_in_layout-same, site-inside}

-- the sites written

pub put_sites-length : (k : ℕ) (b : List ℕ) (w : World) → length (put_sites k b w) ≡ length b
unfolding put_sites
put_sites-length zero b w = refl
put_sites-length (suc k) b w = put_site-length (put_sites k b w) (site_place k) (site_of w k) ∙ put_sites-length k b w

-- the head lies before the sites
put_sites-head : (k : ℕ) (b : List ℕ) (w : World) (p : ℕ) → p < 32 → get_or (put_sites k b w) p 0 ≡ get_or b p 0
unfolding put_sites site_place
put_sites-head zero b w p h = refl
put_sites-head (suc k) b w p h =
    put_site_else (put_sites k b w) (site_place k) (site_of w k) p (λ i l e. omega arith) ∙ put_sites-head k b w p h

put_sites_word : (b : List ℕ) (w : World) (p : ℕ) → p + 1 < 32 → word_at (put_sites 16 b w) p ≡ word_at b p
put_sites_word b w p h =
    word_same (put_sites 16 b w) b p (put_sites-head 16 b w p (omega arith)) (put_sites-head 16 b w (p + 1) h)

-- each site reads back
put_sites-at :
    (k : ℕ) (b : List ℕ) (w : World) (i : ℕ) → Fits w → i < k → k ≤ 16 → 672 ≤ length b →
    site_at (put_sites k b w) (site_place i) ≡ site_of w i
unfolding put_sites site_place
put_sites-at zero b w i f h small room = absurd (omega arith)
put_sites-at (suc k) b w i f h small room =
    by_equal i k
    (λ e.
    rw e
    (site-read-back (put_sites k b w) (site_place k) (site_of w k) (rw put_sites-length (omega arith)) (f.codes k (omega arith))
    (f.joined k (omega arith))))
    (λ e.
    site_at-same (put_site (put_sites k b w) (site_place k) (site_of w k)) (put_sites k b w) (site_place i)
    (λ j l. put_site_else (put_sites k b w) (site_place k) (site_of w k) (site_place i + j) (λ m n q. e (omega arith)))
    ∙ put_sites-at k b w i f (omega arith) (omega arith) room)

-- the sites read

pub sites_from-length : (k : ℕ) (b : List ℕ) → length (sites_from k b) ≡ 16
unfolding sites_from down_sites
sites_from-length zero b = refl
sites_from-length (suc k) b = simp length-set (sites_from-length k b)

pub sites_from-at :
    (k : ℕ) (b : List ℕ) (i : ℕ) (d : Site) → i < k → k ≤ 16 → get_or (sites_from k b) i d ≡ site_at b (site_place i)
unfolding sites_from
sites_from-at zero b i d h small = absurd (omega arith)
sites_from-at (suc k) b i d h small =
    set_ind (λ s. s ≡ site_at b (site_place i)) (sites_from k b) k i (site_at b (site_place k)) d
    (rw sites_from-length (omega arith))
    (λ e. rw e)
    (λ e. sites_from-at k b i d (omega arith) (omega arith))

-- the head written

put_numbers-length : (b : List ℕ) (w : World) → length (put_numbers b w) ≡ length b
unfolding put_numbers
put_numbers-length b w = simp put_number-length

-- the numbers lie before the weights
head_numbers : (b : List ℕ) (w : World) (p : ℕ) → p < 16 → get_or (put_head b w) p 0 ≡ get_or (put_numbers b w) p 0
unfolding put_head
head_numbers b w p h = put_codes_else 16 (put_numbers b w) 16 w.weights p (λ i l e. omega arith)

head_word : (b : List ℕ) (w : World) (p : ℕ) → p + 1 < 16 → word_at (put_head b w) p ≡ word_at (put_numbers b w) p
head_word b w p h = word_same (put_head b w) (put_numbers b w) p (head_numbers b w p (omega arith)) (head_numbers b w (p + 1) h)

pub put_head-length : (b : List ℕ) (w : World) → length (put_head b w) ≡ length b
unfolding put_head
put_head-length b w = simp (put_codes-length, put_numbers-length)

module _ (b : List ℕ) (w : World) (room : 672 ≤ length b) where
  head-n : w.n < 256 → get_or (put_head b w) 1 0 ≡ w.n
  unfolding put_numbers shifted
  head-n small =
      head_numbers b w 1 (omega arith)
      ∙ put_number_else 2 _ 14 0 1 (λ i l e. omega arith)
      ∙ put_number_else 4 _ 10 w.news 1 (λ i l e. omega arith)
      ∙ put_number_else 2 _ 8 w.rows 1 (λ i l e. omega arith)
      ∙ put_number_else 2 _ 6 w.willing 1 (λ i l e. omega arith)
      ∙ put_number_else 2 _ 4 w.abort.0 1 (λ i l e. omega arith)
      ∙ put_number_else 2 _ 2 w.commit.0 1 (λ i l e. omega arith)
      ∙ put_number-at 1 (put_number 1 b 0 layout_number) 1 w.n 0 (omega arith) (rw put_number-length (omega arith))
      ∙ mod-eq_of_lt small

  head-commit : w.commit.0 < 65536 → word_at (put_head b w) 2 ≡ w.commit.0
  unfolding put_numbers
  head-commit small =
      head_word b w 2 (omega arith)
      ∙ word_else 2 _ 14 0 2 (λ i l e. omega arith) (λ i l e. omega arith)
      ∙ word_else 4 _ 10 w.news 2 (λ i l e. omega arith) (λ i l e. omega arith)
      ∙ word_else 2 _ 8 w.rows 2 (λ i l e. omega arith) (λ i l e. omega arith)
      ∙ word_else 2 _ 6 w.willing 2 (λ i l e. omega arith) (λ i l e. omega arith)
      ∙ word_else 2 _ 4 w.abort.0 2 (λ i l e. omega arith) (λ i l e. omega arith)
      ∙ word_written (put_number 1 (put_number 1 b 0 layout_number) 1 w.n) 2 w.commit.0 (simp put_number-length (omega arith)) small

  head-abort : w.abort.0 < 65536 → word_at (put_head b w) 4 ≡ w.abort.0
  unfolding put_numbers
  head-abort small =
      head_word b w 4 (omega arith)
      ∙ word_else 2 _ 14 0 4 (λ i l e. omega arith) (λ i l e. omega arith)
      ∙ word_else 4 _ 10 w.news 4 (λ i l e. omega arith) (λ i l e. omega arith)
      ∙ word_else 2 _ 8 w.rows 4 (λ i l e. omega arith) (λ i l e. omega arith)
      ∙ word_else 2 _ 6 w.willing 4 (λ i l e. omega arith) (λ i l e. omega arith)
      ∙ word_written (put_number 2 (put_number 1 (put_number 1 b 0 layout_number) 1 w.n) 2 w.commit.0) 4 w.abort.0
      (simp put_number-length (omega arith)) small

  head-willing : w.willing < 65536 → word_at (put_head b w) 6 ≡ w.willing
  unfolding put_numbers
  head-willing small =
      head_word b w 6 (omega arith)
      ∙ word_else 2 _ 14 0 6 (λ i l e. omega arith) (λ i l e. omega arith)
      ∙ word_else 4 _ 10 w.news 6 (λ i l e. omega arith) (λ i l e. omega arith)
      ∙ word_else 2 _ 8 w.rows 6 (λ i l e. omega arith) (λ i l e. omega arith)
      ∙ word_written
      (put_number 2 (put_number 2 (put_number 1 (put_number 1 b 0 layout_number) 1 w.n) 2 w.commit.0) 4 w.abort.0) 6 w.willing
      (simp put_number-length (omega arith)) small

  head_rows : w.rows < 65536 → word_at (put_head b w) 8 ≡ w.rows
  unfolding put_numbers
  head_rows small =
      head_word b w 8 (omega arith)
      ∙ word_else 2 _ 14 0 8 (λ i l e. omega arith) (λ i l e. omega arith)
      ∙ word_else 4 _ 10 w.news 8 (λ i l e. omega arith) (λ i l e. omega arith)
      ∙ word_written
      (put_number 2 (put_number 2 (put_number 2 (put_number 1 (put_number 1 b 0 layout_number) 1 w.n) 2 w.commit.0) 4 w.abort.0) 6
      w.willing)
      8 w.rows (simp put_number-length (omega arith)) small

  head-news : w.news < 4294967296 → long_at (put_head b w) 10 ≡ w.news
  unfolding put_numbers
  head-news small =
      long_same (put_head b w) (put_numbers b w) 10 (head_word b w 10 (omega arith)) (head_word b w 12 (omega arith))
      ∙ long_same (put_numbers b w) _ 10
      (word_else 2 _ 14 0 10 (λ i l e. omega arith) (λ i l e. omega arith))
      (word_else 2 _ 14 0 12 (λ i l e. omega arith) (λ i l e. omega arith))
      ∙ long-written
      (put_number 2
      (put_number 2 (put_number 2 (put_number 2 (put_number 1 (put_number 1 b 0 layout_number) 1 w.n) 2 w.commit.0) 4 w.abort.0) 6
      w.willing)
      8 w.rows)
      10 w.news (simp put_number-length (omega arith)) small

  head-weights : length w.weights ≡ 16 → codes_from 16 (put_head b w) 16 ≡ w.weights
  unfolding put_head
  head-weights l =
      ext_get_or 0 (codes_from 16 (put_head b w) 16) w.weights (codes_from-length 16 (put_head b w) 16 ∙ sym l)
      (λ i h.
      let small : i < 16 = omega (arith, codes_from-length 16 (put_head b w) 16) in
      codes_from-at 16 (put_head b w) 16 i small (omega arith)
      ∙ put_codes-at 16 (put_numbers b w) 16 w.weights i small (rw put_numbers-length (omega arith)))

world_same :
    (v w : World) → v.sites ≡ w.sites → v.n ≡ w.n → v.commit.0 ≡ w.commit.0 → v.abort.0 ≡ w.abort.0 →
    v.willing ≡ w.willing → v.weights ≡ w.weights → v.rows ≡ w.rows → v.news ≡ w.news → v ≡ w
world_same v w a b c d e f g h =
    let z : ◌≡◌ {A = World}
    (record {
      sites = v.sites;
      n = v.n;
      commit = record { 0 = v.commit.0 };
      abort = record { 0 = v.abort.0 };
      willing = v.willing;
      weights = v.weights;
      rows = v.rows;
      news = v.news;
    })
    (record {
      sites = w.sites;
      n = w.n;
      commit = record { 0 = w.commit.0 };
      abort = record { 0 = w.abort.0 };
      willing = w.willing;
      weights = w.weights;
      rows = w.rows;
      news = w.news;
    }) = cc in
    z

-- A WORLD WRITTEN AND READ
pub world-read-back : WorldReadBack
unfolding world_at put_world site_of
world-read-back b w room f =
    let long : 672 ≤ length (put_head b w) = rw put_head-length room in
    world_same (world_at (put_world b w)) w
    (ext_get_or (blank_site false) (sites_from 16 (put_world b w)) w.sites (sites_from-length 16 (put_world b w) ∙ sym f.sites)
    (λ i h.
    let small : i < 16 = omega (arith, sites_from-length 16 (put_world b w)) in
    sites_from-at 16 (put_world b w) i (blank_site false) small (omega arith)
    ∙ put_sites-at 16 (put_head b w) w i f small (omega arith) long))
    (put_sites-head 16 (put_head b w) w 1 (omega arith) ∙ head-n b w room f.n-fits)
    (put_sites_word (put_head b w) w 2 (omega arith) ∙ head-commit b w room f.commit-fits)
    (put_sites_word (put_head b w) w 4 (omega arith) ∙ head-abort b w room f.abort-fits)
    (put_sites_word (put_head b w) w 6 (omega arith) ∙ head-willing b w room f.willing-fits)
    (codes_from-same 16 (put_world b w) (put_head b w) 16 16 (λ i h. put_sites-head 16 (put_head b w) w (16 + i) (omega arith))
    ∙ head-weights b w room f.weights)
    (put_sites_word (put_head b w) w 8 (omega arith) ∙ head_rows b w room f.rows_fit)
    (long_same (put_sites 16 (put_head b w) w) (put_head b w) 10 (put_sites_word (put_head b w) w 10 (omega arith))
    (put_sites_word (put_head b w) w 12 (omega arith))
    ∙ head-news b w room f.news_fits_lem)

-- bytes that are there already

pub byte_held : (b : List ℕ) (at x : ℕ) → x % 256 ≡ get_or b at 0 → put_number 1 b at x ≡ b
unfolding shifted
byte_held b at x e =
    put_number-same 1 b at x (λ i h. let z : ◌≡◌ {A = ℕ} i 0 = omega arith in rw (z, add-zero) e)

pub word_held : (b : List ℕ) (at : ℕ) → ((i : ℕ) → get_or b i 0 < 256) → put_number 2 b at (word_at b at) ≡ b
unfolding shifted word_at
word_held b at small =
    put_number-same 2 b at (word_at b at)
    (λ i h.
    by_equal i 0
    (λ z. rw (z, add-zero) (omega (arith, small at, small (at + 1))))
    (λ n.
    let z : ◌≡◌ {A = ℕ} i 1 = omega arith in
    rw z (omega (arith, small at, small (at + 1)))))

long_held : (b : List ℕ) (at : ℕ) → ((i : ℕ) → get_or b i 0 < 256) → put_number 4 b at (long_at b at) ≡ b
unfolding shifted long_at word_at
long_held b at small =
    let first : get_or b at 0 < 256 = small at in
    let second : get_or b (at + 1) 0 < 256 = small (at + 1) in
    let third : get_or b (at + 2) 0 < 256 = small (at + 2) in
    let fourth : get_or b (at + 2 + 1) 0 < 256 = small (at + 2 + 1) in
    put_number-same 4 b at (long_at b at)
    (λ i h.
    by_equal i 0
    (λ z. rw (z, add-zero) (omega arith))
    (λ n.
    by_equal i 1
    (λ z. rw z (omega arith))
    (λ m.
    by_equal i 2
    (λ z. rw z (omega arith))
    (λ q.
    let z : ◌≡◌ {A = ℕ} i 3 = omega arith in
    rw (z, ← (add_assoc at 2 1)) (omega arith)))))

-- what the layout asks
pub record InsideParts (b : List ℕ) : Type 0 where
  pub exact : length b ≡ world_bytes
  pub number : get_or b 0 0 ≡ layout_number
  pub zeros : at_most 2 b 14 0 ≡ true
  pub sites : sites_in_layout 16 b ≡ true

pub inside_parts : (b : List ℕ) → in_layout b ≡ true → InsideParts b
unfolding in_layout
inside_parts b e =
    let rest : both (eqb (get_or b 0 0) layout_number) (both (at_most 2 b 14 0) (sites_in_layout 16 b)) ≡ true =
    both-second (eqb (length b) world_bytes) (both (eqb (get_or b 0 0) layout_number) (both (at_most 2 b 14 0) (sites_in_layout 16 b))) e in
    let parts : both (at_most 2 b 14 0) (sites_in_layout 16 b) ≡ true =
    both-second (eqb (get_or b 0 0) layout_number) (both (at_most 2 b 14 0) (sites_in_layout 16 b)) rest in
    record {
      exact =
          eqb-true (length b) world_bytes
          (both_first (eqb (length b) world_bytes) (both (eqb (get_or b 0 0) layout_number) (both (at_most 2 b 14 0) (sites_in_layout 16 b))) e);
      number = eqb-true (get_or b 0 0) layout_number (both_first (eqb (get_or b 0 0) layout_number) (both (at_most 2 b 14 0) (sites_in_layout 16 b)) rest);
      zeros = both_first (at_most 2 b 14 0) (sites_in_layout 16 b) parts;
      sites = both-second (at_most 2 b 14 0) (sites_in_layout 16 b) parts;
    }

-- what the layout says of each part
pub sites-each : (k : ℕ) (b : List ℕ) → sites_in_layout k b ≡ true → (i : ℕ) → i < k → site_in_layout b (site_place i) ≡ true
unfolding sites_in_layout
sites-each zero b e i h = absurd (omega arith)
sites-each (suc k) b e i h =
    by_equal i k (λ q. rw q (both-second (sites_in_layout k b) (site_in_layout b (site_place k)) e))
    (λ q. sites-each k b (both_first (sites_in_layout k b) (site_in_layout b (site_place k)) e) i (omega arith))

-- a site of the world read
pub site_of_lem : (k : ℕ) (b : List ℕ) → k < 16 → site_of (world_at b) k ≡ site_at b (site_place k)
unfolding site_of world_at
site_of_lem k b h = sites_from-at 16 b k (blank_site false) h (omega arith)

sites_held : (k : ℕ) (b : List ℕ) → sites_in_layout 16 b ≡ true → k ≤ 16 → put_sites k b (world_at b) ≡ b
unfolding put_sites
sites_held zero b e h = refl
sites_held (suc k) b e h =
    rw (sites_held k b e (omega arith), site_of_lem k b (omega arith))
    (site-written-back b (site_place k) (sites-each 16 b e k (omega arith)))

head_held :
    (b : List ℕ) → ((i : ℕ) → get_or b i 0 < 256) → get_or b 0 0 ≡ layout_number → at_most 2 b 14 0 ≡ true → put_head b (world_at b) ≡ b
unfolding put_head put_numbers world_at
head_held b small number zeros =
    rw
    (byte_held b 0 layout_number (sym number), byte_held b 1 (get_or b 1 0) (mod-eq_of_lt (small 1)), word_held b 2 small, word_held b 4 small, word_held b 6 small, word_held b 8 small, long_held b 10 small, zeros_held 2 b 14 zeros)
    (codes_held 16 b 16 (omega arith))

-- BYTES READ AND WRITTEN: a byte is below 256
pub bytes-written-back : BytesWrittenBack
unfolding put_world
bytes-written-back b e small =
    rw (head_held b small (inside_parts b e).number (inside_parts b e).zeros)
    (sites_held 16 b (inside_parts b e).sites (omega arith))

-- the head's first byte and its zeros

head-number : (b : List ℕ) (w : World) → 672 ≤ length b → get_or (put_head b w) 0 0 ≡ layout_number
unfolding put_numbers shifted
head-number b w room =
    head_numbers b w 0 (omega arith)
    ∙ put_number_else 2 _ 14 0 0 (λ i l e. omega arith)
    ∙ put_number_else 4 _ 10 w.news 0 (λ i l e. omega arith)
    ∙ put_number_else 2 _ 8 w.rows 0 (λ i l e. omega arith)
    ∙ put_number_else 2 _ 6 w.willing 0 (λ i l e. omega arith)
    ∙ put_number_else 2 _ 4 w.abort.0 0 (λ i l e. omega arith)
    ∙ put_number_else 2 _ 2 w.commit.0 0 (λ i l e. omega arith)
    ∙ put_number_else 1 _ 1 w.n 0 (λ i l e. omega arith)
    ∙ put_number-at 1 b 0 layout_number 0 (omega arith) (omega arith)

head-zero : (b : List ℕ) (w : World) (i : ℕ) → 672 ≤ length b → i < 2 → get_or (put_head b w) (14 + i) 0 ≡ 0
unfolding put_numbers
head-zero b w i room h =
    head_numbers b w (14 + i) (omega arith)
    ∙ zero-at 2
    (put_number 4
    (put_number 2
    (put_number 2
    (put_number 2 (put_number 2 (put_number 1 (put_number 1 b 0 layout_number) 1 w.n) 2 w.commit.0) 4 w.abort.0) 6
    w.willing)
    8 w.rows)
    10 w.news)
    14 i h (simp put_number-length (omega arith))

sites-inside :
    (k : ℕ) (b : List ℕ) (w : World) (i : ℕ) → i < k → k ≤ 16 → 672 ≤ length b →
    site_in_layout (put_sites k b w) (site_place i) ≡ true
unfolding put_sites site_place
sites-inside zero b w i h small room = absurd (omega arith)
sites-inside (suc k) b w i h small room =
    by_equal i k
    (λ e. rw e (site-inside (put_sites k b w) (site_place k) (site_of w k) (rw put_sites-length (omega arith))))
    (λ e.
    site_in_layout-same (put_site (put_sites k b w) (site_place k) (site_of w k)) (put_sites k b w) (site_place i)
    (λ j l. put_site_else (put_sites k b w) (site_place k) (site_of w k) (site_place i + j) (λ m n q. e (omega arith)))
    ∙ sites-inside k b w i (omega arith) (omega arith) room)

sites-all : (k : ℕ) (b : List ℕ) → ((i : ℕ) → i < k → site_in_layout b (site_place i) ≡ true) → sites_in_layout k b ≡ true
unfolding sites_in_layout
sites-all zero b h = refl
sites-all (suc k) b h =
    both-on (sites_in_layout k b) (site_in_layout b (site_place k)) (sites-all k b (λ i l. h i (omega arith))) (h k (omega arith))

-- EVERY WORLD WRITTEN IS INSIDE THE LAYOUT
pub written-inside : WrittenInside
unfolding in_layout put_world
written-inside b w same =
    let room : 672 ≤ length b = omega arith in
    let long : 672 ≤ length (put_head b w) = rw put_head-length room in
    let size : length (put_sites 16 (put_head b w) w) ≡ world_bytes = put_sites-length 16 (put_head b w) w ∙ put_head-length b w ∙ same in
    let number : get_or (put_sites 16 (put_head b w) w) 0 0 ≡ layout_number =
    put_sites-head 16 (put_head b w) w 0 (omega arith) ∙ head-number b w room in
    let zeros : at_most 2 (put_sites 16 (put_head b w) w) 14 0 ≡ true =
    most-all 2 (put_sites 16 (put_head b w) w) 14 0
    (λ i h.
    let z : get_or (put_sites 16 (put_head b w) w) (14 + i) 0 ≡ 0 =
    put_sites-head 16 (put_head b w) w (14 + i) (omega arith) ∙ head-zero b w i room h in
    omega arith) in
    rw
    (eq-eqb (length (put_sites 16 (put_head b w) w)) world_bytes size, eq-eqb (get_or (put_sites 16 (put_head b w) w) 0 0) layout_number number, zeros)
    (sites-all 16 (put_sites 16 (put_head b w) w) (λ i h. sites-inside 16 (put_head b w) w i h (omega arith) long))

-- bytes inside the layout have a world's length
pub inside-exact : (b : List ℕ) → in_layout b ≡ true → length b ≡ world_bytes
inside-exact b e = (inside_parts b e).exact

pub inside-length : (b : List ℕ) → in_layout b ≡ true → world_bytes ≤ length b
inside-length b e = omega (arith, inside-exact b e)

-- sixteen sites with two vectors of sixteen codes are read from any bytes

pub read-sites : (b : List ℕ) → length (world_at b).sites ≡ 16
unfolding world_at
read-sites b = sites_from-length 16 b

pub read-codes : (b : List ℕ) (j : ℕ) → j < 16 → length (site_of (world_at b) j).codes ≡ 16
unfolding site_at
read-codes b j h = rw (site_of_lem j b h) (codes_from-length 16 b (site_place j + 8))

pub read-joined : (b : List ℕ) (j : ℕ) → j < 16 → length (site_of (world_at b) j).joined ≡ 16
unfolding site_at
read-joined b j h = rw (site_of_lem j b h) (codes_from-length 16 b (site_place j + 24))

-- and sixteen weights

pub read_weights_lem : (b : List ℕ) → length (world_at b).weights ≡ 16
unfolding world_at
read_weights_lem b = codes_from-length 16 b 16
