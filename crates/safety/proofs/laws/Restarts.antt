-- Theorem 7: a site that is down with an empty log writes one abort record at most.
use Rattle.std.specs.Prelude.{ℕ, true, false, List, [], ◌∷◌, ◌++◌, ◌≡◌, refl, eqb}
use Rattle.std.proofs.Common.{true≢false, sym, ap, ◌∙◌, arith}
use Rattle.choice.specs.Choice.{pick}
use Rattle.choice.specs.laws.ChoiceLaws.{pick-on}
use Rattle.site.specs.declared.Outcome.{Outcome}
use Rattle.site.specs.declared.Outcome.TheVariants as Outcome·
use Rattle.site.specs.declared.Site.{Site}
use Rattle.site.specs.State.{state_of, is_active}
use Rattle.site.specs.Fields.{with_up, with_coordinator, with_outcome, with_codes}
use Rattle.site.specs.Records.{Written, wrote, outcome_record, abort, outcome_of, record_code, write_outcome}
use Rattle.rules.specs.Rules.{Move, silent, hear, restart, recover}
use Rattle.world.specs.declared.World.{World}
use Rattle.world.specs.Worlds.{site_of}
use Rattle.play.specs.Calls.{Call}
use Rattle.play.specs.Run.{Ask, run, call_of, after_call}
use Rattle.history.specs.Safe.{written_at}
use Rattle.safety.specs.Claims.{Shaped, OnlyAborts, RestartOnlyAborts}
use Rattle.safety.proofs.laws.View.{Turn, by-start, by-timeout, by-deliver, by-crash, by-recover}
use Rattle.member.specs.laws.Steady.{Steady, active_undecided}
use Rattle.safety.proofs.laws.Turns.{turn_keeps}
use Rattle.safety.proofs.laws.SiteView.{AtSite, stays, turns, seen_at}
use Rattle.safety.proofs.laws.Shape.{shaped-kept}
use Rattle.history.proofs.laws.HistoryLaws.{at-append, at_own}
use Rattle.safety.proofs.laws.Runs.{seen}

-- a site with outcome o, which has written nothing since
Decided : Outcome → Site → List Written → Type 0
Decided o s H = (s.outcome ≡ o) × (H ≡ [])

decided_steady : (own n : ℕ) (o : Outcome) → (o ≡ Outcome·.None → ⊥) → Steady own n (Decided o)
unfolding Decided with_up with_coordinator with_codes hear
decided_steady own n o some =
    record {
      up = λ b s H q. q;
      role = λ b s H q. q;
      writes =
          record {
            prepares = λ s H e q. absurd (some (sym q.0 ∙ active_undecided s e));
            joins = λ k s H e g q. absurd (some (sym q.0 ∙ e));
            decides = λ k s H e q. absurd (some (sym q.0 ∙ e));
          };
      hears = λ row s H e q. q;
      forgets = λ s H q. q;
    }

-- what a call leaves of such a site: the outcome, and no record
record Settled (o : Outcome) (j : ℕ) (site : Site) (records : List Written) : Type 0 where
  same : site.outcome ≡ o
  none : (code : ℕ) → written_at j code records ≡ 0

settled_at :
    (w : World) (store : List ℕ) (j : ℕ) (o : Outcome) (site : Site) (records : List Written) → (o ≡ Outcome·.None → ⊥) →
    (site_of w j).outcome ≡ o → AtSite w store j site records → Settled o j site records
unfolding Decided written_at
settled_at w store j o site records some e (stays s none) = record { same = ap (λ x. x.outcome) s ∙ e; none = none }
settled_at w store j o site records some e (turns m turn s r) =
    let d : Decided o m.step.site m.records =
    turn_keeps w store j m (Decided o) (decided_steady j w.n o some) turn (e, refl) in
    record { same = ap (λ x. x.outcome) s ∙ d.0; none = λ code. ap (written_at j code) (r ∙ d.1) }

-- over every list of calls it writes nothing more
settled_run :
    (w : World) (store : List ℕ) (asks : List Ask) (j : ℕ) (o : Outcome) → Shaped w → (o ≡ Outcome·.None → ⊥) →
    (site_of w j).outcome ≡ o → (code : ℕ) → written_at j code (run w store asks).records ≡ 0
unfolding run after_call call_of written_at
settled_run w store [] j o shaped some e code = refl
settled_run w store (a ∷ asks) j o shaped some e code =
    let c : Call = call_of w store a in
    let now : Settled o j (site_of c.world j) c.records =
    settled_at w store j o (site_of c.world j) c.records some e (seen_at w store j c shaped (seen w store a)) in
    omega (
      arith,
      at-append j code c.records (run c.world c.store asks).records,
      now.none code,
      settled_run c.world c.store asks j o (shaped-kept w store a.list a.place shaped) some now.same code,
    )

-- of a site that is down only RECOVER is accepted
down-recovers : (w : World) (store : List ℕ) (j : ℕ) (m : Move) → (site_of w j).up ≡ false → Turn w store j m → m ≡ recover j (site_of w j)
down-recovers w store j m down (by-start up active) = absurd (true≢false (sym up ∙ down))
down-recovers w store j m down (by-timeout i up) = absurd (true≢false (sym up ∙ down))
down-recovers w store j m down (by-deliver i k up there known goes) = absurd (true≢false (sym up ∙ down))
down-recovers w store j m down (by-crash i up) = absurd (true≢false (sym up ∙ down))
down-recovers w store j m down (by-recover i _) = refl

-- what a call leaves of a site that is down with an empty log: it is so still, or has written abort
data Unvoted (j : ℕ) (site : Site) (records : List Written) : Type 0 where
  still : site.up ≡ false → is_active (state_of site) ≡ true → ((code : ℕ) → written_at j code records ≡ 0) → Unvoted j site records
  aborted : site.outcome ≡ Outcome·.Abort → records ≡ wrote j (outcome_record abort) ∷ [] → Unvoted j site records

unvoted_at :
    (w : World) (store : List ℕ) (j : ℕ) (site : Site) (records : List Written) → (site_of w j).up ≡ false →
    is_active (state_of (site_of w j)) ≡ true → AtSite w store j site records → Unvoted j site records
unfolding recover restart silent with_up with_coordinator with_outcome outcome_of write_outcome
unvoted_at w store j site records down empty (stays s none) =
    still (ap (λ x. x.up) s ∙ down) (ap (λ x. is_active (state_of x)) s ∙ empty) none
unvoted_at w store j site records down empty (turns m turn s r) =
    let is : m ≡ restart j (site_of w j) = down-recovers w store j m down turn ∙ pick-on _ _ _ empty in
    aborted (ap (λ x. x.outcome) s ∙ ap (λ x. x.step.site.outcome) is) (r ∙ ap (λ x. x.records) is)

-- an abort record, and none after it
abort_alone :
    (j code : ℕ) (records later : List Written) → records ≡ wrote j (outcome_record abort) ∷ [] → written_at j code later ≡ 0 →
    written_at j code (records ++ later) ≡ pick (eqb 5 code) 1 0
unfolding record_code
abort_alone j code records later e none =
    omega (
      arith,
      at-append j code records later,
      ap (written_at j code) e ∙ at_own j code (outcome_record abort),
      none,
    )

-- the records of a call, and of the calls after it
unvoted_then :
    (j : ℕ) (site : Site) (records later : List Written) → Unvoted j site records →
    (site.up ≡ false → is_active (state_of site) ≡ true → OnlyAborts j later) →
    (site.outcome ≡ Outcome·.Abort → (code : ℕ) → written_at j code later ≡ 0) → OnlyAborts j (records ++ later)
unvoted_then j site records later (still down empty none) again over =
    let rest : OnlyAborts j later = again down empty in
    record {
      no_prepare = omega (arith, at-append j 1 records later, none 1, rest.no_prepare);
      no_group = omega (arith, at-append j 2 records later, at-append j 3 records later, none 2, none 3, rest.no_group);
      no_commit = omega (arith, at-append j 4 records later, none 4, rest.no_commit);
      one-abort = omega (arith, at-append j 5 records later, none 5, rest.one-abort);
    }
unvoted_then j site records later (aborted o e) again over =
    record {
      no_prepare = abort_alone j 1 records later e (over o 1);
      no_group = omega (arith, abort_alone j 2 records later e (over o 2), abort_alone j 3 records later e (over o 3));
      no_commit = abort_alone j 4 records later e (over o 4);
      one-abort = omega (arith, abort_alone j 5 records later e (over o 5));
    }

abort_not_none : Outcome·.Abort ≡ Outcome·.None → ⊥
abort_not_none e = let z : ◌≡◌ {A = ℕ} 0 1 = cc in absurd (omega arith)

pub restart_only_aborts : RestartOnlyAborts
unfolding run after_call call_of written_at
restart_only_aborts w store [] j shaped d =
    record { no_prepare = refl; no_group = refl; no_commit = refl; one-abort = omega arith }
restart_only_aborts w store (a ∷ asks) j shaped d =
    let c : Call = call_of w store a in
    unvoted_then j (site_of c.world j) c.records (run c.world c.store asks).records
    (unvoted_at w store j (site_of c.world j) c.records d.down d.empty (seen_at w store j c shaped (seen w store a)))
    (λ down empty. restart_only_aborts c.world c.store asks j (shaped-kept w store a.list a.place shaped)
    (record { down = down; empty = empty }))
    (λ o. settled_run c.world c.store asks j Outcome·.Abort (shaped-kept w store a.list a.place shaped) abort_not_none o)
