-- What is claimed of the three rounds (request (viii)): where everyone is back, they finish.
use Rattle.std.specs.Prelude.{ℕ, ◌+◌, ◌-◌, ◌*◌, ◌≤◌, ◌<◌, true, List, ◌≡◌, length}
use Rattle.weights.specs.Weights.{total_weight}
use Rattle.site.specs.declared.Outcome.TheVariants as Outcome·
use Rattle.site.specs.Records.{Kind, outcome_of}
use Rattle.site.specs.declared.CommitQuorum.{CommitQuorum}
use Rattle.site.specs.declared.AbortQuorum.{AbortQuorum}
use Rattle.world.specs.declared.World.{World}
use Rattle.world.specs.Sizes.{max_rows, max_news, store_bytes}
use Rattle.world.specs.Worlds.{site_of}
use Rattle.play.specs.Run.{Ask, run}
use Rattle.safety.specs.Claims.{fresh_run}
use Rattle.list.specs.Play.{play_list}
use Rattle.quiet_run.specs.Claims.{asks_of, AllAccepted}
use Rattle.termination.specs.Schedule.{Course, three_rounds}

-- everyone is back: all sites are up, C + A is W + 1, and 3n² rows are free
pub record AllBack (w : World) : Type 0 where
  pub up : (j : ℕ) → j < w.n → (site_of w j).up ≡ true
  pub quorums : w.commit.0 + w.abort.0 ≡ total_weight w.weights + 1
  pub free : w.rows + 3 * (w.n * w.n) ≤ max_rows

-- the rounds finish: no call is refused; there are at most 3n(2n - 1), and they add at most 3n² rows; every site ends with the same outcome, and one that
-- had an outcome still has it
pub record Finishes (w : World) (store : List ℕ) (t : Course) : Type 0 where
  pub accepted : AllAccepted w store (asks_of t.commands)
  pub events : length t.commands ≤ 3 * (w.n * (2 * w.n - 1))
  pub rows : t.world.rows ≤ w.rows + 3 * (w.n * w.n)
  pub outcome : Kind
  pub everywhere : (j : ℕ) → j < w.n → (site_of t.world j).outcome ≡ outcome_of outcome
  pub kept : (j : ℕ) → j < w.n → ((site_of w j).outcome ≡ Outcome·.None → ⊥) → (site_of t.world j).outcome ≡ (site_of w j).outcome

-- THEOREM 1: they are a list of one-command calls, whatever world and store they set out from
pub record IsRun (w : World) (store : List ℕ) (t : Course) : Type 0 where
  pub same-world : (run w store (asks_of t.commands)).world ≡ t.world
  pub same_store : (run w store (asks_of t.commands)).store ≡ t.store

abbrev pub RoundsAreCalls : Type 0
RoundsAreCalls = (w : World) (store : List ℕ) → IsRun w store (three_rounds w store)

-- THEOREM 2: they finish from every world that is reached by playing a list, to its end or to where it was stopped
abbrev pub ListsFinish : Type 0
ListsFinish =
    (store list : List ℕ) → AllBack (play_list store list).played.world →
    Finishes (play_list store list).played.world (play_list store list).store
    (three_rounds (play_list store list).played.world (play_list store list).store)

-- the news is so far below its limit that the rounds cannot pass it: each of n sites has n - 1 entries of others, and each can rise three times
pub record NewsFree (w : World) : Type 0 where
  pub free : w.news + 3 * (w.n * (w.n - 1)) ≤ max_news

-- THEOREM 3: so it is in every world that is reached by playing a list
abbrev pub ListNewsFree : Type 0
ListNewsFree = (store list : List ℕ) → NewsFree (play_list store list).played.world

-- THEOREM 4: and they finish from every world that is reached by a list of one-command calls from a fresh world, with a store of enough bytes
abbrev pub CallsFinish : Type 0
CallsFinish =
    (n : ℕ) (weights : List ℕ) (c : CommitQuorum) (a : AbortQuorum) (willing : ℕ) (store : List ℕ) (asks : List Ask) →
    store_bytes ≤ length store → AllBack (fresh_run n weights c a willing store asks).world →
    NewsFree (fresh_run n weights c a willing store asks).world →
    Finishes (fresh_run n weights c a willing store asks).world (fresh_run n weights c a willing store asks).store
    (three_rounds (fresh_run n weights c a willing store asks).world (fresh_run n weights c a willing store asks).store)
