-- A call's answer, and how a rule's move enters world and store. Refusals: 15 a row is to be added and 1,024 are there; 17, checked last,
-- the news would pass 491,520.
use Rattle.std.specs.Prelude.{ℕ, ◌+◌, List, [], Result, Ok, Err, ltb, leb, eqb}
use Rattle.choice.specs.Choice.{pick}
use Rattle.row.specs.Rows.{put_row}
use Rattle.site.specs.Records.{Written}
use Rattle.rules.specs.Rules.{Move}
use Rattle.refusals.specs.declared.Refusal.{Refusal}
use Rattle.refusals.specs.Refusals.{number_of}
use Rattle.world.specs.declared.World.{World}
use Rattle.world.specs.Sizes.{max_rows, max_news}
use Rattle.world.specs.Worlds.{with_site, with_rows, with_news}
use Rattle.play.specs.declared.Played.{Played}

-- what a call leaves: number (0: accepted), world, store, place (after the operands where accepted, that of the command byte where
-- refused: the papers leave it open), the records written, and the news: how many entries its event raised
pub record Call : Type 0 where
  pub number : ℕ
  pub world : World
  pub store : List ℕ
  pub place : ℕ
  pub records : List Written
  pub news : ℕ

-- a refused command changes nothing
unfoldable pub refuse : ℕ → World → List ℕ → ℕ → Call
refuse number w store at = record { number = number; world = w; store = store; place = at; records = []; news = 0 }

-- a move's site put back, and the move's news added to the world's
unfoldable pub put_back : ℕ → Move → World → World
put_back own m w = with_news (w.news + m.step.news) (with_site own m.step.site w)

-- the site put back, no row
unfoldable pub enter_silent : World → List ℕ → ℕ → ℕ → Move → Call
enter_silent w store next own m =
    record {
      number = 0;
      world = put_back own m w;
      store = store;
      place = next;
      records = m.records;
      news = m.step.news;
    }

-- the site put back, and its row added after the last
unfoldable pub enter_row : World → List ℕ → ℕ → ℕ → Move → Call
enter_row w store next own m =
    record {
      number = 0;
      world = with_rows (w.rows + 1) (put_back own m w);
      store = put_row store w.rows m.step.row;
      place = next;
      records = m.records;
      news = m.step.news;
    }

-- an answer, or 17 where a move's news would pass the limit; the limit itself may be reached
unfoldable pub within_news : World → List ℕ → ℕ → Move → Call → Call
within_news w store at m r = pick (leb (w.news + m.step.news) max_news) r (refuse 17 w store at)

-- a move of site `own` put into world and store, or 15, then 17
unfoldable pub enter : World → List ℕ → ℕ → ℕ → ℕ → Move → Call
enter w store at next own m =
    pick (eqb m.step.row.kind 0) (within_news w store at m (enter_silent w store next own m))
    (pick (ltb w.rows max_rows) (within_news w store at m (enter_row w store next own m)) (refuse 15 w store at))

-- what a caller is told of a call, beside the store that it lent: number (0: accepted), world and place
pub record Told : Type 0 where
  pub number : ℕ
  pub world : World
  pub place : ℕ

unfoldable pub played_of : Call → Told
played_of r = record { number = r.number; world = r.world; place = r.place }

-- what the code's answer tells a caller who gave a world: a refused call gives it back as it came
abbrev pub told : World → Result Played Refusal → Told
told w (Ok p) = record { number = 0; world = p.world; place = p.place }
told w (Err r) = record { number = number_of r.reason; world = w; place = r.place }
