-- DELIVER is fair.
use Rattle.std.specs.Prelude.{ℕ, ◌+◌, ◌≤◌, ◌<◌, Bool, ◌≡◌, refl, eqb, get_or}
use mathlib.Core.List.{List, [], ◌∷◌, ◌++◌}
use Rattle.std.proofs.Common.{◌∙◌, eqb-true}
use native.Mathlib.Omega.{arith}
use Rattle.choice.specs.Choice.{pick}
use Rattle.choice.specs.laws.ChoiceLaws.{pick_ind}
use Rattle.vector.specs.Vector.{lowest_outcome}
use Rattle.merging.specs.Merging.{merging}
use Rattle.row.specs.declared.Row.{Row}
use Rattle.bits.specs.Bits.{has_bit}
use Rattle.site.specs.declared.State.{State}
use Rattle.site.specs.declared.State.TheVariants as State·
use Rattle.site.specs.declared.Site.{Site}
use Rattle.site.specs.State.{state_of, is_terminated}
use Rattle.site.specs.Records.{Written, wrote, prepare_record, group_record, outcome_record, commit, abort, write_prepare, write_outcome}
use Rattle.rules.specs.Rules.{Noted, silent, replying, hear, adopt_code, adopt, vote_in, join_commit_in, join_abort_in, after, answer, bringing, after_hearing, deliver}
use Rattle.history.specs.Safe.{written_at}
use Rattle.history.proofs.laws.HistoryLaws.{grown_append}
use Rattle.history.proofs.laws.Weights.{weigh_records, outcome-from}
use Rattle.history.proofs.laws.Truth.{Terms, AllPrepared, AbortGround, TrueCode, TrueRow, Says}
use Rattle.history.proofs.laws.TruthLaws.{all-prepared-grows, vector_merge, says, says_open}
use Rattle.history.proofs.laws.Writing.{unprepared, grounded, write_record}
use Rattle.history.proofs.laws.Fair.{Standing, FairNoted, FairMove, fair-stay, fair-write, fair-after, standing-codes, fair-silent, fair-reply}

-- the merge
pub standing-hear : {t : Terms} {own : ℕ} {H : List Written} {s : Site} (row : Row) →
    ((i : ℕ) → i < t.n → TrueCode H i (get_or row.codes i 0)) → Standing t own H s → Standing t own H (hear own t.n row s)
unfolding hear
standing-hear {t} {own} {H} {s} row true-said st =
    standing-codes (merging t.n own row.sender row.codes s.codes).codes
    (vector_merge own row.sender row.codes s.codes st.few true-said st.site.codes) st

module _ {t : Terms} {own : ℕ} {H : List Written} {s : Site} (st : Standing t own H s) where
  -- an outcome that some entry shows
  fair-adopt_code : (code : ℕ) → written_at own 4 H + written_at own 5 H ≡ 0 →
      (1 ≤ code → (i : ℕ) × (i < t.n) × (get_or s.codes i 0 ≡ code)) → FairNoted t own H (adopt_code code own s)
  unfolding adopt_code write_record
  fair-adopt_code code free from =
      pick_ind (FairNoted t own H) (eqb code 4)
      (record { site = write_outcome commit own s; records = wrote own (outcome_record commit) ∷ [] })
      (pick (eqb code 5) (record { site = write_outcome abort own s; records = wrote own (outcome_record abort) ∷ [] })
      (record { site = s; records = [] }))
      (λ e. fair-write st (outcome_record commit) (free, quorum (shown 4 (omega arith) (eqb-true code 4 e))))
      (λ e. pick_ind (FairNoted t own H) (eqb code 5)
      (record { site = write_outcome abort own s; records = wrote own (outcome_record abort) ∷ [] })
      (record { site = s; records = [] })
      (λ e'. fair-write st (outcome_record abort) (free, grounded (ground (shown 5 (omega arith) (eqb-true code 5 e')))))
      (λ e'. fair-stay st))
    where
      backed : (x : ℕ) → 1 ≤ x → code ≡ x → (i : ℕ) × (i < t.n) × (get_or s.codes i 0 ≡ code) → (i : ℕ) × (1 ≤ written_at i x H)
      backed x some e (i, less, same) = (i, rw (same ∙ e) at (st.site.codes.codes i less (omega arith)))

      shown : (x : ℕ) → 1 ≤ x → code ≡ x → (i : ℕ) × (1 ≤ written_at i x H)
      shown x some e = backed x some e (from (omega arith))

      quorum : (i : ℕ) × (1 ≤ written_at i 4 H) → t.commit ≤ weigh_records t.weight t.n 2 H
      quorum (i, h) = st.history.commit-outcome i h

      ground : (i : ℕ) × (1 ≤ written_at i 5 H) → AbortGround t H
      ground (i, h) = st.history.abort-outcome i h

  pub fair-adopt : FairNoted t own H (adopt own t.n s)
  unfolding adopt
  fair-adopt =
      pick_ind (FairNoted t own H) (is_terminated (state_of s)) (record { site = s; records = [] })
      (adopt_code (lowest_outcome t.n s.codes) own s)
      (λ e. fair-stay st)
      (λ e. fair-adopt_code (lowest_outcome t.n s.codes) (says_open (state_of s) own H e (says st.site))
      (λ some. outcome-from t.n (lowest_outcome t.n s.codes) s.codes some refl))

  fair-vote_in : (now : State) (willing : Bool) → has_bit t.willing own ≡ willing → Says now own H →
      FairNoted t own H (vote_in now own willing s)
  unfolding vote_in write_record
  fair-vote_in State·.Active willing is (p, g, o) =
      pick_ind (FairNoted t own H) willing (record { site = write_prepare own s; records = wrote own prepare_record ∷ [] })
      (record { site = write_outcome abort own s; records = wrote own (outcome_record abort) ∷ [] })
      (λ e. fair-write st prepare_record (p, omega arith, is ∙ e))
      (λ e. fair-write st (outcome_record abort) (o, unprepared p))
  fair-vote_in State·.Prepared willing is h = fair-stay st
  fair-vote_in State·.CommitGroup willing is h = fair-stay st
  fair-vote_in State·.AbortGroup willing is h = fair-stay st
  fair-vote_in State·.Committed willing is h = fair-stay st
  fair-vote_in State·.Aborted willing is h = fair-stay st

  fair-join_commit_in : (now : State) → AllPrepared t.n H → Says now own H → FairNoted t own H (join_commit_in now own s)
  unfolding join_commit_in write_record
  fair-join_commit_in State·.Active all h = fair-stay st
  fair-join_commit_in State·.Prepared all (p, g, o) = fair-write st (group_record commit) (g, all)
  fair-join_commit_in State·.CommitGroup all h = fair-stay st
  fair-join_commit_in State·.AbortGroup all h = fair-stay st
  fair-join_commit_in State·.Committed all h = fair-stay st
  fair-join_commit_in State·.Aborted all h = fair-stay st

  fair-join_abort_in : (now : State) → Says now own H → FairNoted t own H (join_abort_in now own s)
  unfolding join_abort_in write_record
  fair-join_abort_in State·.Active (p, g, o) = fair-write st (group_record abort) g
  fair-join_abort_in State·.Prepared (p, g, o) = fair-write st (group_record abort) g
  fair-join_abort_in State·.CommitGroup h = fair-stay st
  fair-join_abort_in State·.AbortGroup h = fair-stay st
  fair-join_abort_in State·.Committed h = fair-stay st
  fair-join_abort_in State·.Aborted h = fair-stay st

-- by kind, after the merge and the adoption
fair-answer : {t : Terms} {own : ℕ} {H : List Written} (kind sender : ℕ) (willing : Bool) (m : Noted) →
    has_bit t.willing own ≡ willing → (kind ≡ 3 → AllPrepared t.n H) → FairNoted t own H m →
    FairMove t own H (answer kind own sender willing m)
unfolding answer
fair-answer {t} {own} {H} kind sender willing m is join f =
    let st : Standing t own (H ++ m.records) m.site = f.standing in
    let now : Says (state_of m.site) own (H ++ m.records) = says st.site in
    let vote : Noted = vote_in (state_of m.site) own willing m.site in
    let join_commit : Noted = join_commit_in (state_of m.site) own m.site in
    let join_abort : Noted = join_abort_in (state_of m.site) own m.site in
    pick_ind (FairMove t own H) (eqb kind 1) (replying 2 own sender (after m.records vote))
    (pick (eqb kind 3) (replying 5 own sender (after m.records join_commit))
    (pick (eqb kind 4) (replying 5 own sender (after m.records join_abort))
    (pick (eqb kind 6) (replying 7 own sender m) (silent m.site m.records))))
    (λ e. fair-reply 2 sender (after m.records vote) (omega arith)
    (fair-after t own H m vote f (fair-vote_in st (state_of m.site) willing is now))) λ e₁.
    pick_ind (FairMove t own H) (eqb kind 3) (replying 5 own sender (after m.records join_commit))
    (pick (eqb kind 4) (replying 5 own sender (after m.records join_abort))
    (pick (eqb kind 6) (replying 7 own sender m) (silent m.site m.records)))
    (λ e. fair-reply 5 sender (after m.records join_commit) (omega arith)
    (fair-after t own H m join_commit f (fair-join_commit_in st (state_of m.site)
    (all-prepared-grows t.n (grown_append H m.records) (join (eqb-true kind 3 e))) now))) λ e₂.
    pick_ind (FairMove t own H) (eqb kind 4) (replying 5 own sender (after m.records join_abort))
    (pick (eqb kind 6) (replying 7 own sender m) (silent m.site m.records))
    (λ e. fair-reply 5 sender (after m.records join_abort) (omega arith)
    (fair-after t own H m join_abort f (fair-join_abort_in st (state_of m.site) now))) λ e₃.
    pick_ind (FairMove t own H) (eqb kind 6) (replying 7 own sender m) (silent m.site m.records)
    (λ e. fair-reply 7 sender m (omega arith) f) λ e₄. fair-silent m.site m.records f

pub fair-deliver : {t : Terms} {own : ℕ} {H : List Written} {s : Site} (willing : Bool) (row : Row) → has_bit t.willing own ≡ willing →
    TrueRow t.n H row → Standing t own H s → FairMove t own H (deliver own t.n willing row s)
unfolding deliver after_hearing bringing
fair-deliver {t} {own} {H} {s} willing row is true-row st =
    let answered : FairMove t own H
    (answer row.kind own row.sender willing (adopt own t.n (hear own t.n row s))) =
    fair-answer row.kind row.sender willing (adopt own t.n (hear own t.n row s)) is true-row.join
    (fair-adopt (standing-hear row true-row.codes st)) in
    record { fair = answered.fair; row = answered.row }
