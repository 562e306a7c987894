-- A world as 672 bytes, the layout of docs/LAYOUT.md.
use Rattle.std.specs.Prelude.{ℕ, zero, suc, ◌+◌, ◌*◌, Bool, true, List, leb, eqb, length, get_or, set}
use Rattle.choice.specs.Choice.{pick, both}
use Rattle.code_bytes.specs.CodeBytes.{put_codes, codes_from}
use Rattle.site.specs.declared.Site.{Site}
unfoldable pub use Rattle.site.specs.Bytes.{group_byte, outcome_byte, group_of, outcome_of}
use Rattle.world.specs.declared.World.{World}
use Rattle.world.specs.Worlds.{down_sites, site_of}
use Rattle.word.specs.Words.{word_at}
use Rattle.layout.specs.Numbers.{put_number, long_at}

-- the length of a world in bytes
abbrev pub world_bytes : ℕ
world_bytes = 672

-- the layout number, a world's first byte
abbrev pub layout_number : ℕ
layout_number = 3

-- where site k lies: after the head, sixteen bytes of numbers and sixteen weights; forty bytes each
unfoldable pub site_place : ℕ → ℕ
site_place k = 32 + 40 * k

-- writing

-- 0 no, 1 yes
unfoldable pub flag_byte : Bool → ℕ
flag_byte b = pick b 1 0

-- layout number, n, C, A, willing, rows, news, two zeros
unfoldable pub put_numbers : List ℕ → World → List ℕ
put_numbers b w =
    put_number 2
    (put_number 4
    (put_number 2
    (put_number 2
    (put_number 2 (put_number 2 (put_number 1 (put_number 1 b 0 layout_number) 1 w.n) 2 w.commit.0) 4 w.abort.0) 6
    w.willing)
    8 w.rows)
    10 w.news)
    14 0

-- the numbers, then the sixteen weights
unfoldable pub put_head : List ℕ → World → List ℕ
put_head b w = put_codes 16 (put_numbers b w) 16 w.weights

-- up, role, prepare record, group, outcome, three zeros
unfoldable pub put_flags : List ℕ → ℕ → Site → List ℕ
put_flags b at s =
    put_number 3
    (set
    (set
    (set (set (set b at (flag_byte s.up)) (at + 1) (flag_byte s.coordinator)) (at + 2) (flag_byte s.prepared))
    (at + 3) (group_byte s.group))
    (at + 4) (outcome_byte s.outcome))
    (at + 5) 0

-- the flags, the sixteen codes, the group record's sixteen codes
unfoldable pub put_site : List ℕ → ℕ → Site → List ℕ
put_site b at s = put_codes 16 (put_codes 16 (put_flags b at s) (at + 8) s.codes) (at + 24) s.joined

-- the first k sites
unfoldable pub put_sites : ℕ → List ℕ → World → List ℕ
put_sites zero b w = b
put_sites (suc k) b w = put_site (put_sites k b w) (site_place k) (site_of w k)

-- THE WORLD WRITTEN
unfoldable pub put_world : List ℕ → World → List ℕ
put_world b w = put_sites 16 (put_head b w) w

-- reading

-- the site that lies at a place
unfoldable pub site_at : List ℕ → ℕ → Site
site_at b at =
    record {
      up = eqb (get_or b at 0) 1;
      coordinator = eqb (get_or b (at + 1) 0) 1;
      prepared = eqb (get_or b (at + 2) 0) 1;
      group = group_of (get_or b (at + 3) 0);
      joined = codes_from 16 b (at + 24);
      outcome = outcome_of (get_or b (at + 4) 0);
      codes = codes_from 16 b (at + 8);
    }

-- sixteen sites, the first k of them read
unfoldable pub sites_from : ℕ → List ℕ → List Site
sites_from zero b = down_sites
sites_from (suc k) b = set (sites_from k b) k (site_at b (site_place k))

-- THE WORLD READ
unfoldable pub world_at : List ℕ → World
world_at b =
    record {
      sites = sites_from 16 b;
      n = get_or b 1 0;
      commit = record { 0 = word_at b 2 };
      abort = record { 0 = word_at b 4 };
      willing = word_at b 6;
      weights = codes_from 16 b 16;
      rows = word_at b 8;
      news = long_at b 10;
    }

-- the layout

-- the k bytes from a place on are at most the limit
unfoldable pub at_most : ℕ → List ℕ → ℕ → ℕ → Bool
at_most zero b at limit = true
at_most (suc k) b at limit = both (at_most k b at limit) (leb (get_or b (at + k) 0) limit)

-- three flags 0 or 1; group and outcome 0 to 2; three zeros
unfoldable pub site_in_layout : List ℕ → ℕ → Bool
site_in_layout b at = both (at_most 3 b at 1) (both (at_most 2 b (at + 3) 2) (at_most 3 b (at + 5) 0))

-- the first k sites
unfoldable pub sites_in_layout : ℕ → List ℕ → Bool
sites_in_layout zero b = true
sites_in_layout (suc k) b = both (sites_in_layout k b) (site_in_layout b (site_place k))

-- INSIDE THE LAYOUT: 672 bytes, the layout number, the reserved bytes 0, every flag in its range
unfoldable pub in_layout : List ℕ → Bool
in_layout b =
    both (eqb (length b) world_bytes)
    (both (eqb (get_or b 0 0) layout_number) (both (at_most 2 b 14 0) (sites_in_layout 16 b)))
