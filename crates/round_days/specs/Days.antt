-- FOUR DAYS and their three rounds, written from the papers: that the premises can be met, that both bounds are reached and that one round is not
-- enough; and that without C + A = W + 1 the rounds may not finish.
use Rattle.std.specs.Prelude.{ℕ, zero, suc, ◌-◌, List, [], ◌∷◌, ◌++◌, length, replicate}
use Rattle.site.specs.State.{state_of, code_of}
use Rattle.world.specs.declared.World.{World}
use Rattle.world.specs.Sizes.{store_bytes}
use Rattle.world.specs.Worlds.{site_of}
use Rattle.list.specs.Play.{play_list}
use Rattle.termination.specs.Schedule.{Course, set_out, rounds}

-- the codes of the states of the sites below n
unfoldable pub states_to : ℕ → World → List ℕ
states_to zero w = []
states_to (suc k) w = states_to k w ++ (code_of (state_of (site_of w k)) ∷ [])

abbrev pub states : World → List ℕ
states w = states_to w.n w

-- what a day and its rounds show: the states when it ends and after each round, and the rounds' events and rows
pub record Shown : Type 0 where
  pub before : List ℕ
  pub first : List ℕ
  pub second : List ℕ
  pub third : List ℕ
  pub events : ℕ
  pub rows : ℕ

pub record Day : Type 0 where
  pub list : List ℕ
  pub expected : Shown

-- the world that a list leads to, with a store of zeros; and the rounds from there
unfoldable pub end_of : List ℕ → Course
end_of list = set_out (play_list (replicate store_bytes 0) list).played.world (play_list (replicate store_bytes 0) list).store

unfoldable pub shown : List ℕ → Shown
shown list =
    let end = end_of list in
    record {
      before = states end.world;
      first = states (rounds 1 end).world;
      second = states (rounds 2 end).world;
      third = states (rounds 3 end).world;
      events = length (rounds 3 end).commands;
      rows = (rounds 3 end).world.rows - end.world.rows;
    }

-- three clubs, all have voted (START, and row 0 to each and its vote back): all join in the first round and commit in the second, and the rounds cost
-- all of 3n(2n - 1) = 45 events and 3n² = 27 rows
unfoldable pub all_voted : Day
all_voted =
    record {
      list = 3 ∷ 2 ∷ 2 ∷ 7 ∷ 0 ∷ 1 ∷ 2 ∷ 0 ∷ 0 ∷ 1 ∷ 2 ∷ 1 ∷ 0 ∷ 0 ∷ 2 ∷ 0 ∷ 0 ∷ 2 ∷ 2 ∷ 2 ∷ 0 ∷ 0 ∷ [];
      expected =
          record {
            before = 1 ∷ 1 ∷ 1 ∷ [];
            first = 2 ∷ 2 ∷ 2 ∷ [];
            second = 4 ∷ 4 ∷ 4 ∷ [];
            third = 4 ∷ 4 ∷ 4 ∷ [];
            events = 45;
            rows = 27;
          };
    }

-- nothing has happened yet: each aborts at its first turn and sends nothing, so the first round has three events and no row
unfoldable pub not_begun : Day
not_begun =
    record {
      list = 3 ∷ 2 ∷ 2 ∷ 7 ∷ 0 ∷ [];
      expected =
          record {
            before = 0 ∷ 0 ∷ 0 ∷ [];
            first = 5 ∷ 5 ∷ 5 ∷ [];
            second = 5 ∷ 5 ∷ 5 ∷ [];
            third = 5 ∷ 5 ∷ 5 ∷ [];
            events = 33;
            rows = 18;
          };
    }

-- weights 2, 2 and 1, C = A = 3, site 2 unwilling: START, row 0 to site 1, and the host crashes and is back; site 2 aborts when it is asked
unfoldable pub weighed : Day
weighed =
    record {
      list =
          130 ∷ 3 ∷ 3 ∷ 0 ∷ 3 ∷ 0 ∷ 3 ∷ 0 ∷ 2 ∷ 2 ∷ 1 ∷ 1 ∷ 2 ∷ 0 ∷ 0 ∷ 1 ∷ 4 ∷ 0 ∷ 5 ∷ 0 ∷ [];
      expected =
          record {
            before = 1 ∷ 1 ∷ 0 ∷ [];
            first = 5 ∷ 5 ∷ 5 ∷ [];
            second = 5 ∷ 5 ∷ 5 ∷ [];
            third = 5 ∷ 5 ∷ 5 ∷ [];
            events = 45;
            rows = 27;
          };
    }

-- four clubs, C = A = 3, so C + A is W + 2. All have voted; site 0 joins the commit group, and its join reaches site 1. Site 2 crashes, is back, has
-- forgotten the votes, times out twice and joins the abort group, and its join reaches site 3. Neither group has its quorum, and never will
unfoldable pub side_by_side : Day
side_by_side =
    record {
      list =
          4 ∷ 3 ∷ 3 ∷ 15 ∷ 0
          ∷ 1 ∷ 2 ∷ 0 ∷ 0 ∷ 1 ∷ 2 ∷ 1 ∷ 0 ∷ 0 ∷ 2 ∷ 0 ∷ 0 ∷ 2 ∷ 2 ∷ 2 ∷ 0 ∷ 0 ∷ 2 ∷ 0 ∷ 0 ∷ 3 ∷ 2 ∷ 3 ∷ 0 ∷ 0
          ∷ 3 ∷ 0 ∷ 2 ∷ 4 ∷ 0 ∷ 1
          ∷ 4 ∷ 2 ∷ 5 ∷ 2 ∷ 3 ∷ 2 ∷ 3 ∷ 2 ∷ 2 ∷ 7 ∷ 0 ∷ 3
          ∷ [];
      expected =
          record {
            before = 2 ∷ 2 ∷ 3 ∷ 3 ∷ [];
            first = 2 ∷ 2 ∷ 3 ∷ 3 ∷ [];
            second = 2 ∷ 2 ∷ 3 ∷ 3 ∷ [];
            third = 2 ∷ 2 ∷ 3 ∷ 3 ∷ [];
            events = 84;
            rows = 48;
          };
    }

-- the days that meet the premises, and the one that does not
unfoldable pub meeting : List Day
meeting = all_voted ∷ not_begun ∷ weighed ∷ []

unfoldable pub days : List Day
days = meeting ++ (side_by_side ∷ [])
