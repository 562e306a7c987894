-- Sizes of a competition. Refusals: 3 n; 21 weights; 4 C or A; 5 willing bit at n or above. Zero: none of them.
use Rattle.std.specs.Prelude.{ℕ, ◌+◌, ◌-◌, ◌^◌, Bool, List, ltb, leb}
use Rattle.choice.specs.Choice.{pick, both}
use Rattle.weights.specs.Weights.{total_weight, largest_weight, valid_weights}
use Rattle.site.specs.declared.CommitQuorum.{CommitQuorum}
use Rattle.site.specs.declared.AbortQuorum.{AbortQuorum}

-- the limits: sites, rows, news, bytes of a list, of a list's text, of the store of rows and of the report buffer
abbrev pub max_sites : ℕ
max_sites = 16

abbrev pub max_rows : ℕ
max_rows = 1024

abbrev pub max_news : ℕ
max_news = 491520

abbrev pub list_bytes : ℕ
list_bytes = 32768

abbrev pub text_bytes : ℕ
text_bytes = 196620

abbrev pub store_bytes : ℕ
store_bytes = 20480

abbrev pub report_bytes : ℕ
report_bytes = 1024

-- n: 3 to 16
unfoldable pub sites_fit : ℕ → Bool
sites_fit n = both (leb 3 n) (leb n max_sites)

-- C and A, where the weights come to W, and h is the largest: each at most W - h, and C + A at least W + 1
unfoldable pub quorums_fit : ℕ → ℕ → CommitQuorum → AbortQuorum → Bool
quorums_fit total largest c a =
    both (leb c.0 (total - largest)) (both (leb a.0 (total - largest)) (ltb total (c.0 + a.0)))

-- in this order: n; each weight; C and A; willing sites below n
unfoldable pub sizes_number : ℕ → List ℕ → CommitQuorum → AbortQuorum → ℕ → ℕ
sizes_number n weights c a willing =
    pick (sites_fit n)
    (pick (valid_weights n weights) (pick (quorums_fit (total_weight weights) (largest_weight weights) c a) (pick (ltb willing (2 ^ n)) 0 5) 4) 21)
    3
