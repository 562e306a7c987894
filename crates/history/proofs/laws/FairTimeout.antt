-- START and TIMEOUT are fair.
use Rattle.std.specs.Prelude.{ℕ, ◌+◌, ◌<◌, Bool, ◌≡◌, ltb, eqb}
use Rattle.std.proofs.Math.Bool.{true}
use mathlib.Core.List.{List, [], ◌∷◌}
use Rattle.std.proofs.Common.{◌∙◌, arith}
use Rattle.std.proofs.Math.ListN.{get_or}
use borrow.Author.Tests.{ltb-true, leb-true, eqb-true}
use Rattle.choice.specs.Choice.{either}
use Rattle.choice.specs.laws.ChoiceLaws.{pick_ind}
use Rattle.weights.specs.Weights.{weight_of}
use Rattle.vector.specs.Vector.{weigh, count}
use Rattle.bits.specs.Bits.{has_bit}
use Rattle.site.specs.declared.State.{State}
use Rattle.site.specs.declared.State.TheVariants as State·
use Rattle.site.specs.declared.Site.{Site}
use Rattle.site.specs.declared.CommitQuorum.{CommitQuorum}
use Rattle.site.specs.declared.AbortQuorum.{AbortQuorum}
use Rattle.site.specs.State.{state_of, commit_reached, abort_reached}
use Rattle.site.specs.Fields.{with_coordinator}
use Rattle.site.specs.Records.{Written, wrote, prepare_record, group_record, outcome_record, commit, abort, write_prepare, join_group, write_outcome}
use Rattle.rules.specs.Rules.{commanding, start, take_over, choose_group, decide_commit, decide_abort, timeout_in, timeout}
use Rattle.choice.specs.laws.Cases.{by_test}
use Rattle.history.specs.Safe.{written_at}
use Rattle.history.proofs.laws.HistoryLaws.{grown_append}
use Rattle.history.proofs.laws.Weights.{entry-from, count-all}
use Rattle.history.proofs.laws.Truth.{Terms, site_terms, AllPrepared, by-quorum, Says}
use Rattle.history.proofs.laws.TruthLaws.{all-prepared-grows, quorum-backed, says}
use Rattle.history.proofs.laws.Writing.{unprepared, grounded, write_record}
use Rattle.history.proofs.laws.Fair.{Standing, FairMove, fair-stay, fair-write, fair-coordinator, fair-silent, fair-command}

-- START
pub fair-start : {t : Terms} {H : List Written} {s : Site} (willing : Bool) → has_bit t.willing 0 ≡ willing → Standing t 0 H s →
    Says State·.Active 0 H → FairMove t 0 H (start t.n willing s)
unfolding start write_record
fair-start {t} {H} {s} willing is st (p, g, o) =
    pick_ind (FairMove t 0 H) willing
    (commanding 1 0 t.n (with_coordinator true (write_prepare 0 s)) (wrote 0 prepare_record ∷ []))
    (commanding 6 0 t.n (with_coordinator true (write_outcome abort 0 s)) (wrote 0 (outcome_record abort) ∷ []))
    (λ e. fair-command 1 (with_coordinator true (write_prepare 0 s)) (wrote 0 prepare_record ∷ []) (λ z. absurd (omega arith))
    (fair-coordinator true (fair-write st prepare_record (p, omega arith, is ∙ e))))
    (λ e. fair-command 6 (with_coordinator true (write_outcome abort 0 s)) (wrote 0 (outcome_record abort) ∷ []) (λ z. absurd (omega arith))
    (fair-coordinator true (fair-write st (outcome_record abort) (o, unprepared p))))

-- TIMEOUT

module _ {t : Terms} {own : ℕ} {H : List Written} {s : Site} (st : Standing t own H s) where
  fair-take_over : (kind : ℕ) → (kind ≡ 3 → AllPrepared t.n H) → FairMove t own H (take_over kind own t.n s)
  unfolding take_over
  fair-take_over kind join =
      fair-command kind (with_coordinator true s) [] (λ e. all-prepared-grows t.n (grown_append H []) (join e))
      (fair-coordinator true (fair-stay st))

  -- some entry is 2: all have prepared
  joined-prepared : (i : ℕ) × (i < t.n) × (get_or s.codes i 0 ≡ 2) → AllPrepared t.n H
  joined-prepared (i, less, e) = st.history.commit-group i (rw e at (st.site.codes.codes i less (omega arith)))

  choice_prepared : either (eqb (count t.n s.codes 1) t.n) (ltb 0 (count t.n s.codes 2)) ≡ true → AllPrepared t.n H
  unfolding count
  choice_prepared e =
      by_test (eqb (count t.n s.codes 1) t.n)
      (λ all. record {
        prepared = λ i less.
            let one : get_or s.codes i 0 ≡ 1 =
            count-all t.n 1 s.codes (eqb-true (count t.n s.codes 1) t.n all) i less in
            rw one at (st.site.codes.codes i less (omega arith));
      })
      (λ not-all. joined-prepared
      (entry-from (λ _. 1) t.n 2 s.codes (ltb-true 0 (count t.n s.codes 2) (rw not-all at e))))

  fair-choose_group : written_at own 2 H + written_at own 3 H ≡ 0 → FairMove t own H (choose_group own t.n s)
  unfolding choose_group write_record
  fair-choose_group free =
      pick_ind (FairMove t own H) (either (eqb (count t.n s.codes 1) t.n) (ltb 0 (count t.n s.codes 2)))
      (commanding 3 own t.n (join_group commit own s) (wrote own (group_record commit) ∷ []))
      (commanding 4 own t.n (join_group abort own s) (wrote own (group_record abort) ∷ []))
      (λ e. let all : AllPrepared t.n H = choice_prepared e in
      fair-command 3 (join_group commit own s) (wrote own (group_record commit) ∷ [])
      (λ z. all-prepared-grows t.n (grown_append H (wrote own (group_record commit) ∷ [])) all)
      (fair-write st (group_record commit) (free, all)))
      (λ e. fair-command 4 (join_group abort own s) (wrote own (group_record abort) ∷ []) (λ z. absurd (omega arith))
      (fair-write st (group_record abort) free))

module _ (n : ℕ) (weights : List ℕ) (c : CommitQuorum) (a : AbortQuorum) (willing own : ℕ) (H : List Written) (s : Site)
    (st : Standing (site_terms n weights c a willing) own H s) where
  fair-decide_commit : written_at own 4 H + written_at own 5 H ≡ 0 → AllPrepared n H →
      FairMove (site_terms n weights c a willing) own H (decide_commit own n weights c s)
  unfolding decide_commit commit_reached write_record
  fair-decide_commit free all =
      pick_ind (FairMove (site_terms n weights c a willing) own H) (commit_reached c weights n s.codes)
      (commanding 6 own n (write_outcome commit own s) (wrote own (outcome_record commit) ∷ []))
      (commanding 3 own n s [])
      (λ e. fair-command 6 (write_outcome commit own s) (wrote own (outcome_record commit) ∷ []) (λ z. absurd (omega arith))
      (fair-write st (outcome_record commit)
      (free, omega (arith, leb-true c.0 (weigh (weight_of weights) n s.codes 2) e, quorum-backed (weight_of weights) n 2 (omega arith) st.site.codes))))
      (λ e. fair-command 3 s [] (λ z. all-prepared-grows n (grown_append H []) all) (fair-stay st))

  fair-decide_abort : written_at own 4 H + written_at own 5 H ≡ 0 →
      FairMove (site_terms n weights c a willing) own H (decide_abort own n weights a s)
  unfolding decide_abort abort_reached write_record
  fair-decide_abort free =
      pick_ind (FairMove (site_terms n weights c a willing) own H) (abort_reached a weights n s.codes)
      (commanding 6 own n (write_outcome abort own s) (wrote own (outcome_record abort) ∷ []))
      (commanding 4 own n s [])
      (λ e. fair-command 6 (write_outcome abort own s) (wrote own (outcome_record abort) ∷ []) (λ z. absurd (omega arith))
      (fair-write st (outcome_record abort) (
        free,
        grounded (by-quorum
            (omega (arith, leb-true a.0 (weigh (weight_of weights) n s.codes 3) e, quorum-backed (weight_of weights) n 3 (omega arith) st.site.codes))),
      )))
      (λ e. fair-command 4 s [] (λ z. absurd (omega arith)) (fair-stay st))

  fair-timeout_in : (now : State) → Says now own H → FairMove (site_terms n weights c a willing) own H (timeout_in now own n weights c a s)
  unfolding timeout_in write_record
  fair-timeout_in State·.Active (p, g, o) =
      fair-silent (write_outcome abort own s) (wrote own (outcome_record abort) ∷ [])
      (fair-write st (outcome_record abort) (o, unprepared p))
  fair-timeout_in State·.Prepared (p, g, o) =
      pick_ind (FairMove (site_terms n weights c a willing) own H) s.coordinator (choose_group own n s) (take_over 1 own n s)
      (λ e. fair-choose_group st g) (λ e. fair-take_over st 1 (λ z. absurd (omega arith)))
  fair-timeout_in State·.CommitGroup (g, o) =
      let all : AllPrepared n H = st.history.commit-group own (omega arith) in
      pick_ind (FairMove (site_terms n weights c a willing) own H) s.coordinator (decide_commit own n weights c s) (take_over 3 own n s)
      (λ e. fair-decide_commit o all) (λ e. fair-take_over st 3 (λ z. all))
  fair-timeout_in State·.AbortGroup (g, o) =
      pick_ind (FairMove (site_terms n weights c a willing) own H) s.coordinator (decide_abort own n weights a s) (take_over 4 own n s)
      (λ e. fair-decide_abort o) (λ e. fair-take_over st 4 (λ z. absurd (omega arith)))
  fair-timeout_in State·.Committed o = fair-take_over st 6 (λ z. absurd (omega arith))
  fair-timeout_in State·.Aborted o = fair-take_over st 6 (λ z. absurd (omega arith))

  pub fair-timeout : FairMove (site_terms n weights c a willing) own H (timeout own n weights c a s)
  unfolding timeout
  fair-timeout = fair-timeout_in (state_of s) (says st.site)
