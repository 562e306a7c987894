-- Theorem 2: an accepted delivery finds no conflict, and its join commit no active site.
use Rattle.std.specs.Prelude.{ℕ, ◌+◌, ◌≤◌, ◌<◌, List, [], ◌++◌, ◌≡◌, get_or}
use Rattle.std.proofs.Common.{ap, ◌∙◌, arith}
use Rattle.weights.specs.Weights.{weight_of}
use Rattle.row.specs.declared.Row.{Row}
use Rattle.row.specs.Rows.{get_row}
use Rattle.site.specs.declared.Site.{Site}
use Rattle.site.specs.State.{state_of}
use Rattle.site.specs.Records.{Written}
use Rattle.site.specs.declared.CommitQuorum.{CommitQuorum}
use Rattle.site.specs.declared.AbortQuorum.{AbortQuorum}
use Rattle.rules.specs.Rules.{Noted, hear, adopt}
use Rattle.command.specs.declared.Command.TheVariants as Command·
use Rattle.command.specs.declared.Delivery.{Delivery}
use Rattle.command.specs.Commands.{read_command, found}
use Rattle.world.specs.declared.World.{World}
use Rattle.world.specs.Sizes.{sizes_number}
use Rattle.world.specs.Worlds.{site_of, zero_world}
use Rattle.world.specs.Valid.{valid_world}
use Rattle.play.specs.Calls.{Call}
use Rattle.play.specs.Run.{Ask, Ran, run, call_of}
use Rattle.choice.specs.Places.{sum_to}
use Rattle.safety.specs.Claims.{NoConflict, Delivered, NeverOccurs}
use Rattle.choice.specs.laws.Cases.{by_equal}
use Rattle.history.proofs.laws.HistoryLaws.{grown_append}
use Rattle.world.specs.laws.SizesLaws.{Sized, sized, quorums-above}
use Rattle.world.specs.laws.WorldLaws.{valid-sized}
use Rattle.history.proofs.laws.Truth.{Terms, TrueHistory, TrueCode, TrueRow}
use Rattle.history.proofs.laws.TruthLaws.{all-prepared-grows, not_both, says, says_not_active}
use Rattle.history.proofs.laws.Fair.{Standing, FairNoted}
use Rattle.history.proofs.laws.FairDeliver.{standing-hear, fair-adopt}
use Rattle.safety.proofs.laws.Invariant.{Invariant, terms_of, standing}
use Rattle.safety.proofs.laws.Fresh.{new_world, fresh-new, fresh-zero, zero_invalid, new_invariant}
use Rattle.safety.proofs.laws.Deliveries.{Delivering, delivering}
use Rattle.safety.proofs.laws.Runs.{seen, run_keeps, call-stuck, run-stuck}

-- true codes do not conflict
no_conflict : (t : Terms) (H : List Written) (v : List ℕ) → TrueHistory t H → 1 ≤ t.commit →
    sum_to t.weight t.n < t.commit + t.abort → ((i : ℕ) → i < t.n → TrueCode H i (get_or v i 0)) → NoConflict t.n v
no_conflict t H v true_of some more true-v =
    record {
      none = λ i j i-below j-below four five.
          not_both t H true_of some more i j (rw four at (true-v i i-below (omega arith)))
          (rw five at (true-v j j-below (omega arith)));
    }

-- where the invariant holds, a delivery finds no conflict and no active site
delivered :
    (w : World) (store : List ℕ) (H : List Written) (k i : ℕ) (c : Call) → Invariant w store H → Delivering w store k i c →
    Delivered w store k i
delivered w store H k i c inv d =
    let s : Sized w.n w.weights w.commit w.abort w.willing = valid-sized w d.valid in
    let more : sum_to (weight_of w.weights) w.n < w.commit.0 + w.abort.0 = quorums-above w.n w.weights w.commit w.abort w.willing s in
    let row : Row = get_row store k in
    let true-row : TrueRow w.n H row = inv.rows k d.row_below in
    let merged : Site = hear i w.n row (site_of w i) in
    let heard : Standing (terms_of w) i H merged =
    standing-hear row true-row.codes (standing w store H inv i d.site-below) in
    let then : Noted = adopt i w.n merged in
    let adopted : FairNoted (terms_of w) i H then = fair-adopt heard in
    record {
      row_agrees = no_conflict (terms_of w) H row.codes inv.history (omega arith) more true-row.codes;
      merged_agrees =
          no_conflict (terms_of w) H merged.codes inv.history (omega arith) more heard.site.codes.codes;
      not_active = λ e.
          says_not_active (state_of (site_of w i)) i H ((true-row.join e).prepared i d.site-below)
          (says (inv.sites i d.site-below));
      not_active_then = λ e.
          says_not_active (state_of then.site) i (H ++ then.records)
          ((all-prepared-grows w.n (grown_append H then.records) (true-row.join e)).prepared i d.site-below)
          (says adopted.standing.site);
    }

-- by the sizes: a new world, or the world of zeros, in which no call is accepted
new-never : (n : ℕ) (weights : List ℕ) (c : CommitQuorum) (a : AbortQuorum) (willing : ℕ) (store : List ℕ) (asks : List Ask) (ask : Ask) (d : Delivery) (next : ℕ) → n ≤ 16 →
    read_command ask.list ask.place ≡ found (Command·.Deliver d) next →
    (call_of (run (new_world n weights c a willing) store asks).world (run (new_world n weights c a willing) store asks).store ask).number ≡ 0 →
    Delivered (run (new_world n weights c a willing) store asks).world (run (new_world n weights c a willing) store asks).store d.row d.site
unfolding call_of
new-never n weights c a willing store asks ask d next few reading accepted =
    let r : Ran = run (new_world n weights c a willing) store asks in
    delivered r.world r.store r.records d.row d.site (call_of r.world r.store ask)
    (run_keeps (new_world n weights c a willing) store asks [] (new_invariant n weights c a willing store few))
    (delivering r.world r.store ask.list ask.place d next reading accepted)

zero-never : (store : List ℕ) (asks : List Ask) (ask : Ask) →
    (call_of (run zero_world store asks).world (run zero_world store asks).store ask).number ≡ 0 → ⊥
zero-never store asks ask =
    let r : Ran = run zero_world store asks in
    (call-stuck r.world r.store (call_of r.world r.store ask)
    (ap valid_world (run-stuck zero_world store asks zero_invalid).0 ∙ zero_invalid) (seen r.world r.store ask)).not_accepted

pub never_occurs : NeverOccurs
never_occurs n weights c a willing store asks ask d next reading accepted =
    by_equal (sizes_number n weights c a willing) 0
    (λ e. rw (fresh-new n weights c a willing e)
    (new-never n weights c a willing store asks ask d next (sized n weights c a willing e).high reading (rw (fresh-new n weights c a willing e) at accepted)))
    (λ e. absurd (zero-never store asks ask (rw (fresh-zero n weights c a willing e) at accepted)))
