-- What playing a list shows, by the definitions: the words in which the table of days is written.
use Rattle.std.specs.Prelude.{ℕ, zero, suc, ◌+◌, ◌^◌, List, [], ◌∷◌, ◌++◌, length, replicate}
use Prim.Native.String.{String}
use Rattle.text.specs.Text.{text}
use Rattle.row.specs.declared.Row.{Row}
use Rattle.row.specs.Rows.{get_row}
use Rattle.site.specs.Records.{Written}
use Rattle.header.specs.Headers.{header_world}
use Rattle.list.specs.Play.{Play, play_list}
use Rattle.play.specs.Run.{run}
use Rattle.lines.specs.Lines.{code_digits}
use Rattle.report.specs.Report.{report_text}

-- THE COMMANDS of a list, as bytes

unfoldable pub START : List ℕ
START = 1 ∷ []

-- row number (below 256 in these days) and site
unfoldable pub DELIVER : ℕ → ℕ → List ℕ
DELIVER row site = 2 ∷ row ∷ 0 ∷ site ∷ []

unfoldable pub TIMEOUT : ℕ → List ℕ
TIMEOUT site = 3 ∷ site ∷ []

unfoldable pub CRASH : ℕ → List ℕ
CRASH site = 4 ∷ site ∷ []

unfoldable pub RECOVER : ℕ → List ℕ
RECOVER site = 5 ∷ site ∷ []

-- a header with n = 3, C = A = 2 and the willing sites' bits
unfoldable pub three : ℕ → List ℕ
three willing = 3 ∷ 2 ∷ 2 ∷ willing ∷ 0 ∷ []

-- a second-edition header: C and A (below 256 in these days), the willing sites' bits, and a weight for each site
unfoldable pub weighed : ℕ → ℕ → ℕ → List ℕ → List ℕ
weighed commit abort willing weights =
    130 ∷ length weights ∷ commit ∷ 0 ∷ abort ∷ 0 ∷ willing ∷ 0 ∷ weights

-- A ROW SENT: kind, sender, destinations, and its first n codes as digits
pub record Sent : Type 0 where
  pub kind : ℕ
  pub sender : ℕ
  pub destinations : ℕ
  pub codes : List ℕ

-- a set of sites as bits
unfoldable pub bits : List ℕ → ℕ
bits [] = 0
bits (site ∷ sites) = 2 ^ site + bits sites

unfoldable pub sent : ℕ → ℕ → List ℕ → String → Sent
sent kind sender to codes = record { kind = kind; sender = sender; destinations = bits to; codes = text codes }

-- the kinds of row that these days send
unfoldable pub prepare : ℕ → List ℕ → String → Sent
prepare = sent 1

unfoldable pub vote : ℕ → List ℕ → String → Sent
vote = sent 2

unfoldable pub join_abort : ℕ → List ℕ → String → Sent
join_abort = sent 4

unfoldable pub in_group : ℕ → List ℕ → String → Sent
in_group = sent 5

unfoldable pub outcome : ℕ → List ℕ → String → Sent
outcome = sent 6

-- a row of the store, shown
unfoldable pub sent_by : ℕ → Row → Sent
sent_by n r = record { kind = r.kind; sender = r.sender; destinations = r.destinations; codes = code_digits n r.codes }

-- the rows below k of the store
unfoldable pub rows_sent : ℕ → ℕ → List ℕ → List Sent
rows_sent n zero store = []
rows_sent n (suc k) store = rows_sent n k store ++ (sent_by n (get_row store k) ∷ [])

-- lines of text, each with its end
unfoldable pub lines : List String → List ℕ
lines [] = []
lines (line ∷ rest) = text line ++ text "\n" ++ lines rest

-- WHAT A DAY SHOWS: the number (0: played to its end), the place, the accepted events, every row sent, every record written, in
-- order, the sum of the calls' news, and the whole report
pub record Shown : Type 0 where
  pub number : ℕ
  pub place : ℕ
  pub events : ℕ
  pub rows : List Sent
  pub records : List Written
  pub news : ℕ
  pub report : List ℕ

unfoldable pub shown_by : List ℕ → List ℕ → Play → Shown
shown_by store list p =
    record {
      number = p.played.number;
      place = p.played.place;
      events = p.played.events;
      rows = rows_sent p.played.world.n p.played.world.rows p.store;
      records = (run (header_world list) store p.asks).records;
      news = (run (header_world list) store p.asks).news;
      report = report_text p.played.world p.played.events p.played.number p.played.place;
    }

-- a list played by the definitions, in a store of noughts
unfoldable pub shown : List ℕ → Shown
shown list = shown_by (replicate 20480 0) list (play_list (replicate 20480 0) list)
