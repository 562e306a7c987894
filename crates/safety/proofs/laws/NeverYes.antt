-- Theorem 8: a site that was down with an empty log has never said yes, and never will.
use Rattle.std.specs.Prelude.{ℕ, ◌≤◌, ◌<◌, List, [], ◌++◌, ◌≡◌}
use Rattle.std.proofs.Common.{ap, subst, ◌∙◌, arith}
use Rattle.choice.specs.laws.Cases.{by_equal}
use Rattle.row.specs.Rows.{get_row}
use Rattle.site.specs.declared.State.TheVariants as State·
use Rattle.site.specs.declared.CommitQuorum.{CommitQuorum}
use Rattle.site.specs.declared.AbortQuorum.{AbortQuorum}
use Rattle.site.specs.State.{state_of}
use Rattle.site.specs.Records.{Written}
use Rattle.world.specs.declared.World.{World}
use Rattle.world.specs.Sizes.{sizes_number}
use Rattle.world.specs.Worlds.{zero_world, site_of}
use Rattle.world.specs.Valid.{valid_world}
use Rattle.world.specs.laws.SizesLaws.{sized}
use Rattle.play.specs.Run.{Ask, Ran, run}
use Rattle.history.specs.Safe.{written_at}
use Rattle.safety.specs.Claims.{Shaped, DownEmpty, OnlyAborts, NoYes, run_on, NeverSaysYes}
use Rattle.history.proofs.laws.HistoryLaws.{at-append}
use Rattle.history.proofs.laws.Truth.{Says}
use Rattle.history.proofs.laws.TruthLaws.{says, says_active}
use Rattle.safety.proofs.laws.Invariant.{Invariant}
use Rattle.safety.proofs.laws.Fresh.{new_world, fresh-new, fresh-zero, zero_invalid, new_invariant}
use Rattle.safety.proofs.laws.RunWorlds.{fresh-whole}
use Rattle.safety.proofs.laws.Runs.{run_keeps, run-terms, run-stuck}
use Rattle.safety.proofs.laws.Restarts.{restart_only_aborts}

-- an empty log, and at most an abort record after it
none-but-abort :
    (j code : ℕ) (H K : List Written) → Says State·.Active j H → OnlyAborts j K → 1 ≤ code → code ≤ 4 → written_at j code (H ++ K) ≡ 0
none-but-abort j code H K (p, g, o) only some few =
    by_equal code 1 (λ e. rw e (omega (arith, at-append j 1 H K, only.no_prepare))) λ not-1.
    by_equal code 2 (λ e. rw e (omega (arith, at-append j 2 H K, only.no_group))) λ not-2.
    by_equal code 3 (λ e. rw e (omega (arith, at-append j 3 H K, only.no_group))) λ not-3.
    by_equal code 4 (λ e. rw e (omega (arith, at-append j 4 H K, only.no_commit))) λ not-4. absurd (omega arith)

-- from a new world
new_no_yes :
    (n : ℕ) (weights : List ℕ) (c : CommitQuorum) (a : AbortQuorum) (willing : ℕ) (store : List ℕ) (first rest : List Ask) (j k : ℕ) → j < n →
    sizes_number n weights c a willing ≡ 0 → DownEmpty (run (new_world n weights c a willing) store first).world j →
    k < (run_on (run (new_world n weights c a willing) store first) rest).world.rows →
    NoYes j (get_row (run_on (run (new_world n weights c a willing) store first) rest).store k).codes
unfolding new_world
new_no_yes n weights c a willing store first rest j k less e d there =
    let w : World = new_world n weights c a willing in
    let r : Ran = run w store first in
    let r' : Ran = run_on r rest in
    let n-same : r.world.n ≡ n = ap (λ t. t.n) (run-terms w store first) in
    let n-same' : r'.world.n ≡ r.world.n = ap (λ t. t.n) (run-terms r.world r.store rest) in
    let inv : Invariant r.world r.store r.records =
    run_keeps w store first [] (new_invariant n weights c a willing store (sized n weights c a willing e).high) in
    let inv' : Invariant r'.world r'.store (r.records ++ r'.records) =
    run_keeps r.world r.store rest r.records inv in
    let shaped : Shaped r.world =
    subst (λ x. Shaped (run x store first).world) (fresh-new n weights c a willing e) (fresh-whole n weights c a willing store first e).shaped in
    let active : Says State·.Active j r.records =
    says_active (state_of (site_of r.world j)) j r.records d.empty (says (inv.sites j (omega arith))) in
    record {
      none = λ some few.
          omega (
            arith,
            (inv'.rows k there).codes j (omega arith) some,
            none-but-abort j _ r.records r'.records active (restart_only_aborts r.world r.store rest j shaped d) some few,
          );
    }

-- in the world of zeros there is no row
zero-no_row : (store : List ℕ) (first rest : List Ask) (k : ℕ) → k < (run_on (run zero_world store first) rest).world.rows → ⊥
unfolding zero_world
zero-no_row store first rest k there =
    let r : Ran = run zero_world store first in
    let same : r.world ≡ zero_world = (run-stuck zero_world store first zero_invalid).0 in
    let again : (run_on r rest).world ≡ r.world =
    (run-stuck r.world r.store rest (ap valid_world same ∙ zero_invalid)).0 in
    omega (arith, ap (λ w. w.rows) (again ∙ same))

pub never-says_yes : NeverSaysYes
never-says_yes n weights c a willing store first rest j k less d there =
    by_equal (sizes_number n weights c a willing) 0
    (λ e. rw (fresh-new n weights c a willing e)
    (new_no_yes n weights c a willing store first rest j k less e (rw (fresh-new n weights c a willing e) at d) (rw (fresh-new n weights c a willing e) at there)))
    (λ e. absurd (zero-no_row store first rest k (rw (fresh-zero n weights c a willing e) at there)))
