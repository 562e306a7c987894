-- A command that is accepted in a world of given sites: what it leaves.
use Rattle.std.specs.Prelude.{ℕ, ◌+◌, ◌≤◌, ◌<◌, true, List, ◌≡◌, set}
use Rattle.std.proofs.Common.{ap, ◌∙◌}
use borrow.Author.Tests.{lt-ltb, le-leb, eq-eqb, ne_eqb}
use Rattle.bits.specs.Bits.{has_bit}
use Rattle.row.specs.Rows.{put_row, get_row, row_known}
use Rattle.site.specs.declared.Site.{Site}
use Rattle.site.specs.declared.CommitQuorum.{CommitQuorum}
use Rattle.site.specs.declared.AbortQuorum.{AbortQuorum}
use Rattle.site.specs.State.{state_of, is_active}
use Rattle.rules.specs.Rules.{Move, start, timeout, deliver}
use Rattle.command.specs.declared.Command.{Command}
use Rattle.command.specs.declared.Command.TheVariants as Command·
use Rattle.world.specs.declared.World.{World}
use Rattle.world.specs.Sizes.{max_news}
use Rattle.world.specs.Worlds.{site_of, is_willing, with_site, with_rows, with_news}
use Rattle.play.specs.Calls.{put_back, enter_silent, enter_row, within_news, enter}
use Rattle.play.specs.Commands.{start_call, timeout_call, deliver_row, deliver_call, perform}
use Rattle.play.specs.Run.{Ran}
use Rattle.quiet.specs.Quiet.{row_to, waited}
use Rattle.quiet_run.proofs.laws.Leads.{taken, Takes}

module _ (n : ℕ) (weights : List ℕ) (c : CommitQuorum) (a : AbortQuorum) (willing : ℕ) where
  -- a world of these sizes
  unfoldable pub world_with : List Site → ℕ → ℕ → World
  world_with sites rows news =
      record { sites = sites; n = n; commit = c; abort = a; willing = willing; weights = weights; rows = rows; news = news }

  pub world_same :
      (l k : List Site) (x y u v : ℕ) → l ≡ k → x ≡ y → u ≡ v → world_with l x u ≡ world_with k y v
  world_same l k x y u v p q t = ap (λ z. world_with z x u) p ∙ ap (λ z. world_with k z u) q ∙ ap (world_with k y) t

  -- what a move of site `own` leaves that sends a row, and one that does not
  unfoldable pub with_row : List Site → ℕ → ℕ → List ℕ → ℕ → Move → Ran
  with_row sites rows news s own m =
      record {
        world = world_with (set sites own m.step.site) (rows + 1) (news + m.step.news);
        store = put_row s rows m.step.row;
        records = m.records;
        news = m.step.news;
      }

  unfoldable pub without_row : List Site → ℕ → ℕ → List ℕ → ℕ → Move → Ran
  without_row sites rows news s own m =
      record {
        world = world_with (set sites own m.step.site) rows (news + m.step.news);
        store = s;
        records = m.records;
        news = m.step.news;
      }

  module _ (sites : List Site) (rows news : ℕ) (s : List ℕ) (own : ℕ) (m : Move) (low : news + m.step.news ≤ max_news) where
    enter-row :
        (at next : ℕ) → (m.step.row.kind ≡ 0 → ⊥) → rows < 1024 →
        enter (world_with sites rows news) s at next own m ≡ taken (with_row sites rows news s own m) next
    unfolding enter within_news enter_row put_back with_site with_rows with_news world_with with_row taken
    enter-row at next some room = rw (ne_eqb m.step.row.kind 0 some, lt-ltb rows 1024 room, le-leb (news + m.step.news) max_news low)

    enter-silent :
        (at next : ℕ) → m.step.row.kind ≡ 0 →
        enter (world_with sites rows news) s at next own m ≡ taken (without_row sites rows news s own m) next
    unfolding enter within_news enter_silent put_back with_site with_rows with_news world_with without_row taken
    enter-silent at next none = rw (eq-eqb m.step.row.kind 0 none, le-leb (news + m.step.news) max_news low)

  -- DELIVER
  module _ (sites : List Site) (rows news : ℕ) (s : List ℕ) (k i : ℕ) (below : i < n) (there : k < rows)
      (known : row_known n (get_row s k) ≡ true) (sent : has_bit (get_row s k).destinations i ≡ true) (will : has_bit willing i ≡ true)
      (up : (site_of (world_with sites rows news) i).up ≡ true) (m : Move)
      (moves : deliver i n true (get_row s k) (site_of (world_with sites rows news) i) ≡ m) (low : news + m.step.news ≤ max_news) where
    delivered :
        (at next : ℕ) → perform (row_to k i) (world_with sites rows news) s at next ≡ enter (world_with sites rows news) s at next i m
    unfolding perform row_to deliver_call deliver_row world_with is_willing
    delivered at next = rw (lt-ltb i n below, lt-ltb k rows there, known, sent, will, moves, up)

    pub deliver-row : (m.step.row.kind ≡ 0 → ⊥) → rows < 1024 → Takes (row_to k i) (world_with sites rows news) s (with_row sites rows news s i m)
    deliver-row some room =
        record { calls = λ at next. delivered at next ∙ enter-row sites rows news s i m low at next some room }

    pub deliver-silent : m.step.row.kind ≡ 0 → Takes (row_to k i) (world_with sites rows news) s (without_row sites rows news s i m)
    deliver-silent none = record { calls = λ at next. delivered at next ∙ enter-silent sites rows news s i m low at next none }

  -- START
  pub start-row :
      (sites : List Site) (rows news : ℕ) (s : List ℕ) (m : Move) → (site_of (world_with sites rows news) 0).up ≡ true →
      is_active (state_of (site_of (world_with sites rows news) 0)) ≡ true → has_bit willing 0 ≡ true →
      start n true (site_of (world_with sites rows news) 0) ≡ m → (m.step.row.kind ≡ 0 → ⊥) → rows < 1024 →
      news + m.step.news ≤ max_news → Takes Command·.Start (world_with sites rows news) s (with_row sites rows news s 0 m)
  unfolding perform start_call is_willing world_with
  start-row sites rows news s m up active will moves some room low =
      record { calls = λ at next. (rw (will, moves, active, up)) ∙ enter-row sites rows news s 0 m low at next some room }

  -- TIMEOUT at site 0
  pub timeout-row :
      (sites : List Site) (rows news : ℕ) (s : List ℕ) (m : Move) → 0 < n → (site_of (world_with sites rows news) 0).up ≡ true →
      timeout 0 n weights c a (site_of (world_with sites rows news) 0) ≡ m → (m.step.row.kind ≡ 0 → ⊥) → rows < 1024 →
      news + m.step.news ≤ max_news → Takes waited (world_with sites rows news) s (with_row sites rows news s 0 m)
  unfolding perform waited timeout_call world_with
  timeout-row sites rows news s m some-site up moves some room low =
      record { calls = λ at next. (rw (lt-ltb 0 n some-site, moves, up)) ∙ enter-row sites rows news s 0 m low at next some room }
