-- What holds of world, store and history after every call: what is true of the network that they are.
use Rattle.std.specs.Prelude.{ℕ, ◌≤◌, ◌<◌, ◌≡◌, length}
use mathlib.Core.List.{List, ◌++◌, append-nil}
use Rattle.std.proofs.Common.{sym, subst, ◌∙◌, arith, length-set}
use Rattle.row.specs.Rows.{get_row}
use Rattle.site.specs.Records.{Written}
use Rattle.rules.specs.Rules.{Move}
use Rattle.world.specs.declared.World.{World}
use Rattle.world.specs.Worlds.{site_of, with_site, with_rows, with_news}
use Rattle.play.specs.Calls.{Call, refuse, put_back, enter_silent, enter_row}
use Rattle.member.specs.Claims.{Long}
use Rattle.member.specs.laws.Long.{long_steady}
use Rattle.history.specs.Network.{Network, after_step}
use Rattle.history.proofs.laws.Truth.{Terms, site_terms, TrueHistory, TrueSite, TrueRow}
use Rattle.history.proofs.laws.Fair.{Standing}
use Rattle.history.proofs.laws.TrueNetwork.{TrueNetwork, step_true}
use Rattle.history.proofs.laws.Alike.{alike_true}
use Rattle.safety.proofs.laws.View.{Granted, Seen, as_refused, as_silent, as_row}
use Rattle.safety.proofs.laws.Turns.{turn_keeps}
use Rattle.safety.proofs.laws.AsNetwork.{competition_of, network_of, rows-length, rows_at, CallStep, silent-step, row_step}

-- the terms that a world's sizes set
abbrev pub terms_of : World → Terms
terms_of w = site_terms w.n w.weights w.commit w.abort w.willing

pub record Invariant (w : World) (store : List ℕ) (H : List Written) : Type 0 where
  pub history : TrueHistory (terms_of w) H
  pub sites : (j : ℕ) → j < w.n → TrueSite w.n j H (site_of w j)
  pub rows : (k : ℕ) → k < w.rows → TrueRow w.n H (get_row store k)
  pub few : w.n ≤ 16
  pub sixteen : length w.sites ≡ 16

-- it is what is true of the network

pub as_network : {w : World} {store : List ℕ} {H : List Written} → Invariant w store H → TrueNetwork (competition_of w) (network_of w store) H
as_network {w} {store} {H} inv =
    record {
      history = inv.history;
      sites = inv.sites;
      rows = λ k h.
          let less : k < w.rows = omega (arith, rows-length w.rows store) in
          subst (TrueRow w.n H) (sym (rows_at w.rows k store less)) (inv.rows k less);
      few = inv.few;
    }

pub of_network : (w : World) (store : List ℕ) (H : List Written) → TrueNetwork (competition_of w) (network_of w store) H → length w.sites ≡ 16 →
    Invariant w store H
of_network w store H true_of sixteen =
    record {
      history = true_of.history;
      sites = true_of.sites;
      rows = λ k h.
          subst (TrueRow w.n H) (rows_at w.rows k store h) (true_of.rows k (omega (arith, rows-length w.rows store)));
      few = true_of.few;
      sixteen = sixteen;
    }

module _ (w : World) (store : List ℕ) (H : List Written) (inv : Invariant w store H) where
  pub standing : (i : ℕ) → i < w.n → Standing (terms_of w) i H (site_of w i)
  standing i less = record { history = inv.history; below = less; few = inv.few; site = inv.sites i less }

  -- the site that has moved
  pub long_after : (own : ℕ) (m : Move) → Granted w store own m → Long m.step.site
  long_after own m g =
      turn_keeps w store own m (λ s K. Long s) (long_steady own w.n) g.turn
      (record { codes = (inv.sites own g.below).codes.long; joined = (inv.sites own g.below).joined.long })

  -- the network after a call that is a step
  stepped : (r : Call) → CallStep w store r → TrueNetwork (competition_of w) (network_of r.world r.store) (H ++ r.records)
  stepped r s =
      let after : Network = after_step (competition_of w) (network_of w store) s.told in
      alike_true (competition_of w) after (network_of r.world r.store) s.alike
      (subst (λ K. TrueNetwork (competition_of w) after (H ++ K)) s.records
      (step_true (competition_of w) (network_of w store) H (as_network inv) s.told s.genuine))

  -- a call keeps the invariant
  pub call_keeps : (r : Call) → Seen w store r → Invariant r.world r.store (H ++ r.records)
  unfolding refuse enter_silent enter_row put_back with_site with_rows with_news site_of
  call_keeps r (as_refused number place other) = rw append-nil inv
  call_keeps r (as_silent next own m g none) =
      of_network _ _ _ (stepped (enter_silent w store next own m) (silent-step w store inv.sixteen own m g next none))
      (length-set w.sites own m.step.site ∙ inv.sixteen)
  call_keeps r (as_row next own m g some room) =
      of_network _ _ _ (stepped (enter_row w store next own m) (row_step w store inv.sixteen own m g next some room (long_after own m g)))
      (length-set w.sites own m.step.site ∙ inv.sixteen)
