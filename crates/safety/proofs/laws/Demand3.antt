-- Theorem 1: demand 3 over every list of calls from the maker's world, which is a history of a network.
use Rattle.std.specs.Prelude.{ℕ, List, ◌≡◌}
use Rattle.std.proofs.Common.{subst}
use Rattle.choice.specs.laws.Cases.{by_equal}
use Rattle.site.specs.declared.CommitQuorum.{CommitQuorum}
use Rattle.site.specs.declared.AbortQuorum.{AbortQuorum}
use Rattle.world.specs.Sizes.{sizes_number}
use Rattle.world.specs.Worlds.{zero_world}
use Rattle.play.specs.Run.{Ask}
use Rattle.history.specs.Safe.{Safe}
use Rattle.history.proofs.laws.NetworkSafe.{empty_safe, network_safe}
use Rattle.safety.specs.Claims.{fresh_run, HistoryOf, Demand3, RefusedSizes}
use Rattle.safety.proofs.laws.Fresh.{fresh-zero, zero_invalid}
use Rattle.safety.proofs.laws.Runs.{run-stuck}
use Rattle.safety.proofs.laws.Histories.{runs_are_histories}

pub refused-sizes : RefusedSizes
refused-sizes n weights c a willing store asks e =
    rw (fresh-zero n weights c a willing e) (run-stuck zero_world store asks zero_invalid).1

-- the run of sizes that are not refused
sized_safe : (n : ℕ) (weights : List ℕ) (c : CommitQuorum) (a : AbortQuorum) (willing : ℕ) (store : List ℕ) (asks : List Ask) → sizes_number n weights c a willing ≡ 0 →
    Safe n willing (fresh_run n weights c a willing store asks).records
sized_safe n weights c a willing store asks e =
    let h : HistoryOf _ (fresh_run n weights c a willing store asks) = runs_are_histories n weights c a willing store asks e in
    subst (Safe n willing) h.same-records (network_safe _ h.steps h.genuine)

pub demand3 : Demand3
demand3 n weights c a willing store asks =
    by_equal (sizes_number n weights c a willing) 0
    (λ e. sized_safe n weights c a willing store asks e)
    (λ e. rw (refused-sizes n weights c a willing store asks e) (empty_safe n willing))
