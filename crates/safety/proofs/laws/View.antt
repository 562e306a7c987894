-- A view of one command: it is a refusal, or the move of one site by one of the five rules, put into world and store.
use Rattle.std.specs.Prelude.{ℕ, ◌+◌, ◌≤◌, ◌<◌, true, false, List, ◌≡◌, length}
use Rattle.bits.specs.Bits.{has_bit}
use Rattle.row.specs.Rows.{get_row, row_known}
use Rattle.site.specs.State.{state_of, is_active}
use Rattle.rules.specs.Rules.{Move, start, timeout, deliver, crash, recover}
use Rattle.world.specs.declared.World.{World}
use Rattle.world.specs.Sizes.{max_rows, max_news, store_bytes}
use Rattle.world.specs.Worlds.{site_of, is_willing}
use Rattle.world.specs.Valid.{valid_world}
use Rattle.play.specs.Calls.{Call, refuse, enter_silent, enter_row}

-- the move of a site by a rule, with what the refusals have made sure of
pub data Turn (w : World) (store : List ℕ) : ℕ → Move → Type 0 where
  by-start :
      (site_of w 0).up ≡ true → is_active (state_of (site_of w 0)) ≡ true →
      Turn w store 0 (start w.n (is_willing w 0) (site_of w 0))
  by-timeout : (i : ℕ) → (site_of w i).up ≡ true → Turn w store i (timeout i w.n w.weights w.commit w.abort (site_of w i))
  by-deliver :
      (i k : ℕ) → (site_of w i).up ≡ true → k < w.rows → row_known w.n (get_row store k) ≡ true → has_bit (get_row store k).destinations i ≡ true →
      Turn w store i (deliver i w.n (is_willing w i) (get_row store k) (site_of w i))
  by-crash : (i : ℕ) → (site_of w i).up ≡ true → Turn w store i (crash i (site_of w i))
  by-recover : (i : ℕ) → (site_of w i).up ≡ false → Turn w store i (recover i (site_of w i))

-- what a call that is not refused has made sure of
pub record Granted (w : World) (store : List ℕ) (own : ℕ) (m : Move) : Type 0 where
  pub valid : valid_world w ≡ true
  pub room : store_bytes ≤ length store
  pub below : own < w.n
  pub turn : Turn w store own m
  pub news : w.news + m.step.news ≤ max_news

pub data Seen (w : World) (store : List ℕ) : Call → Type 0 where
  as_refused : (number place : ℕ) → (number ≡ 0 → ⊥) → Seen w store (refuse number w store place)
  as_silent :
      (next own : ℕ) (m : Move) → Granted w store own m → m.step.row.kind ≡ 0 →
      Seen w store (enter_silent w store next own m)
  as_row :
      (next own : ℕ) (m : Move) → Granted w store own m → (m.step.row.kind ≡ 0 → ⊥) → w.rows < max_rows →
      Seen w store (enter_row w store next own m)
