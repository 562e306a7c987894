-- A list's header. First edition, 5 bytes: n, C, A, then willing sites as 16 bits; every site weighs 1. Second edition (request (vi)),
-- 8 + n bytes: 130, n, then C, A and willing sites as 16 bits each, then n weights. Low bytes first.
-- Refusals: 1 length over 32,768; 2 under 5, whatever the first byte; 3 n; 2 a second-edition header that is cut; 21, 4, 5 sizes.
use Rattle.std.specs.Prelude.{ℕ, ◌+◌, Bool, List, ltb, eqb, length, get_or}
use Rattle.choice.specs.Choice.{pick, both}
use Rattle.word.specs.Words.{word_at}
use Rattle.weights.specs.Weights.{weights_by, even_weights}
use Rattle.world.specs.declared.Sizes.{Sizes}
use Rattle.world.specs.declared.World.{World}
use Rattle.world.specs.Sizes.{list_bytes, sites_fit, sizes_number}
use Rattle.world.specs.Worlds.{fresh_world}
use Rattle.header.specs.declared.Header.{Header}

-- the numbers of a first-edition header, of which n is the first byte
unfoldable pub first_header : List ℕ → Header
first_header list =
    record {
      n = get_or list 0 0;
      commit = record { 0 = get_or list 1 0 };
      abort = record { 0 = get_or list 2 0 };
      willing = word_at list 3;
    }

-- the numbers of a second-edition header
unfoldable pub second_header : List ℕ → Header
second_header list =
    record {
      n = get_or list 1 0;
      commit = record { 0 = word_at list 2 };
      abort = record { 0 = word_at list 4 };
      willing = word_at list 6;
    }

-- a list of the second edition
unfoldable pub is_second : List ℕ → Bool
is_second list = eqb (get_or list 0 0) 130

-- the header's numbers
unfoldable pub header_of : List ℕ → Header
header_of list = pick (is_second list) (second_header list) (first_header list)

-- its weights
unfoldable pub header_weights : List ℕ → List ℕ
header_weights list =
    pick (is_second list) (weights_by (λ i. get_or list (8 + i) 0) (header_of list).n) (even_weights (header_of list).n)

-- numbers and weights together
abbrev pub sizes_of : Header → List ℕ → Sizes
sizes_of h weights = record { n = h.n; weights = weights; commit = h.commit; abort = h.abort; willing = h.willing }

abbrev pub list_sizes : List ℕ → Sizes
list_sizes list = sizes_of (header_of list) (header_weights list)

-- its length, the place of the first command
unfoldable pub header_length : List ℕ → ℕ
header_length list = pick (is_second list) (8 + (header_of list).n) 5

-- 3, 21, 4 or 5 of a header with these weights; 0 for none
unfoldable pub header_sizes : Header → List ℕ → ℕ
header_sizes h weights = sizes_number h.n weights h.commit h.abort h.willing

-- a header that is cut: n is 3 to 16, and not all of its bytes are there
unfoldable pub is_cut : List ℕ → Bool
is_cut list = both (sites_fit (header_of list).n) (ltb (length list) (header_length list))

-- 1 or 2 of a list's length, else the number after it
abbrev pub after_length : List ℕ → ℕ → ℕ
after_length list number = pick (ltb list_bytes (length list)) 1 (pick (ltb (length list) 5) 2 number)

-- the number of a list's length and header, 0 for none
unfoldable pub header_number : List ℕ → ℕ
header_number list = after_length list (pick (is_cut list) 2 (header_sizes (header_of list) (header_weights list)))

-- the header's fresh world
unfoldable pub header_world : List ℕ → World
header_world list =
    fresh_world (header_of list).n (header_weights list) (header_of list).commit (header_of list).abort (header_of list).willing

-- 3, 4 or 5 of a first-edition header: every site weighs 1
unfoldable pub first_sizes : Header → ℕ
first_sizes h = header_sizes h (even_weights h.n)

-- the number of a list's length and header where it can only be of the first edition, as for texts: there 130 is an n, so 3
unfoldable pub first_number : List ℕ → ℕ
first_number list = after_length list (first_sizes (first_header list))
