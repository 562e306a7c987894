-- A step writes at most one record: a delivery that adopts an outcome writes no other.
use Rattle.std.specs.Prelude.{ℕ, ◌+◌, ◌≤◌, Bool, true, false, ◌≡◌, ltb, eqb, length}
use Rattle.std.proofs.Common.{true≢false, sym, ◌∙◌, length-append, ltb-true, ltb-false}
use mathlib.Core.List.{List, [], ◌∷◌, ◌++◌}
use Rattle.std.proofs.Math.Path.{refl}
use native.Mathlib.Omega.{arith}
use Rattle.choice.specs.Choice.{pick, either}
use Rattle.choice.specs.laws.ChoiceLaws.{pick_ind}
use Rattle.choice.specs.laws.Cases.{by_test}
use Rattle.vector.specs.Vector.{count, lowest_outcome}
use Rattle.row.specs.declared.Row.{Row}
use Rattle.site.specs.declared.State.{State}
use Rattle.site.specs.declared.State.TheVariants as State·
use Rattle.site.specs.declared.Site.{Site}
use Rattle.site.specs.declared.CommitQuorum.{CommitQuorum}
use Rattle.site.specs.declared.AbortQuorum.{AbortQuorum}
use Rattle.site.specs.State.{state_by, state_of, is_terminated, is_active, commit_reached, abort_reached}
use Rattle.site.specs.Fields.{with_up, with_coordinator, with_outcome}
use Rattle.site.specs.Records.{Written, Kind, commit, abort, wrote, prepare_record, group_record, outcome_record, outcome_of, write_prepare, join_group, write_outcome}
use Rattle.rules.specs.Rules.{
  Move,
  Noted,
  silent,
  commanding,
  replying,
  start,
  take_over,
  choose_group,
  decide_commit,
  decide_abort,
  timeout_in,
  timeout,
  hear,
  adopt_code,
  adopt,
  vote_in,
  join_commit_in,
  join_abort_in,
  after,
  answer,
  bringing,
  after_hearing,
  deliver,
  crash,
  restart,
  recover,
}
use Rattle.member.specs.Steps.{refuse, take}
use Rattle.member.specs.Claims.{OneRecord}
use Rattle.member.specs.laws.Answers.{step_ind}

unfoldable One : Move → Type 0
One m = length m.records ≤ 1

-- START, TIMEOUT, CRASH and RECOVER write one or none, case by case

one-start : (n : ℕ) (willing : Bool) (s : Site) → One (start n willing s)
unfolding One start commanding
one-start n willing s =
    pick_ind One willing (commanding 1 0 n (with_coordinator true (write_prepare 0 s)) (wrote 0 prepare_record ∷ []))
    (commanding 6 0 n (with_coordinator true (write_outcome abort 0 s)) (wrote 0 (outcome_record abort) ∷ []))
    (λ _. omega arith) (λ _. omega arith)

module _ (own n : ℕ) (weights : List ℕ) (c : CommitQuorum) (a : AbortQuorum) (s : Site) where
  one_choose : One (choose_group own n s)
  unfolding One choose_group commanding
  one_choose =
      pick_ind One (either (eqb (count n s.codes 1) n) (ltb 0 (count n s.codes 2)))
      (commanding 3 own n (join_group commit own s) (wrote own (group_record commit) ∷ []))
      (commanding 4 own n (join_group abort own s) (wrote own (group_record abort) ∷ []))
      (λ _. omega arith) (λ _. omega arith)

  one-decide_commit : One (decide_commit own n weights c s)
  unfolding One decide_commit commanding
  one-decide_commit =
      pick_ind One (commit_reached c weights n s.codes)
      (commanding 6 own n (write_outcome commit own s) (wrote own (outcome_record commit) ∷ [])) (commanding 3 own n s [])
      (λ _. omega arith) (λ _. omega arith)

  one-decide_abort : One (decide_abort own n weights a s)
  unfolding One decide_abort commanding
  one-decide_abort =
      pick_ind One (abort_reached a weights n s.codes)
      (commanding 6 own n (write_outcome abort own s) (wrote own (outcome_record abort) ∷ [])) (commanding 4 own n s [])
      (λ _. omega arith) (λ _. omega arith)

  one-take_over : (kind : ℕ) → One (take_over kind own n s)
  unfolding One take_over commanding
  one-take_over kind = omega arith

  one-timeout_in : (st : State) → One (timeout_in st own n weights c a s)
  unfolding One timeout_in silent
  one-timeout_in State·.Active = omega arith
  one-timeout_in State·.Prepared =
      pick_ind One s.coordinator (choose_group own n s) (take_over 1 own n s) (λ _. one_choose) (λ _. one-take_over 1)
  one-timeout_in State·.CommitGroup =
      pick_ind One s.coordinator (decide_commit own n weights c s) (take_over 3 own n s)
      (λ _. one-decide_commit) (λ _. one-take_over 3)
  one-timeout_in State·.AbortGroup =
      pick_ind One s.coordinator (decide_abort own n weights a s) (take_over 4 own n s)
      (λ _. one-decide_abort) (λ _. one-take_over 4)
  one-timeout_in State·.Committed = one-take_over 6
  one-timeout_in State·.Aborted = one-take_over 6

  one-timeout : One (timeout own n weights c a s)
  unfolding timeout
  one-timeout = one-timeout_in (state_of s)

one-crash : (own : ℕ) (s : Site) → One (crash own s)
unfolding One crash silent
one-crash own s = omega arith

one-recover : (own : ℕ) (s : Site) → One (recover own s)
unfolding One recover restart silent
one-recover own s =
    pick_ind One (is_active (state_of s)) (restart own s) (silent (with_up true s) []) (λ _. omega arith) (λ _. omega arith)

-- DELIVER: what was written at once, and if something was, the site is terminated
record Adopted (m : Noted) : Type 0 where
  few : length m.records ≤ 1
  terminated : 1 ≤ length m.records → is_terminated (state_of m.site) ≡ true

outcome-terminated : (k : Kind) (own : ℕ) (s : Site) → is_terminated (state_of (write_outcome k own s)) ≡ true
unfolding write_outcome with_outcome state_of state_by is_terminated outcome_of
outcome-terminated commit own s = refl
outcome-terminated abort own s = refl

abbrev decided : Kind → ℕ → Site → Noted
decided k own s = record { site = write_outcome k own s; records = wrote own (outcome_record k) ∷ [] }

adopted-none : (s : Site) → Adopted (record { site = s; records = [] })
adopted-none s = record { few = omega arith; terminated = λ h. absurd (omega arith) }

adopted-one : (k : Kind) (own : ℕ) (s : Site) → Adopted (decided k own s)
adopted-one k own s = record { few = omega arith; terminated = λ _. outcome-terminated k own s }

adopted : (own n : ℕ) (s : Site) → Adopted (adopt own n s)
unfolding adopt adopt_code
adopted own n s =
    pick_ind Adopted (is_terminated (state_of s)) (record { site = s; records = [] }) (adopt_code (lowest_outcome n s.codes) own s)
    (λ _. adopted-none s) λ _.
    pick_ind Adopted (eqb (lowest_outcome n s.codes) 4) (decided commit own s)
    (pick (eqb (lowest_outcome n s.codes) 5) (decided abort own s) (record { site = s; records = [] }))
    (λ _. adopted-one commit own s) λ _.
    pick_ind Adopted (eqb (lowest_outcome n s.codes) 5) (decided abort own s) (record { site = s; records = [] })
    (λ _. adopted-one abort own s) (λ _. adopted-none s)

-- a site that has an outcome writes nothing more; any other has written nothing yet
then-none : (H : List Written) → length H ≤ 1 → length (H ++ []) ≤ 1
then-none H few = omega (arith, length-append H [])

then_one : (H : List Written) (x : Written) (st : State) → is_terminated st ≡ false → (1 ≤ length H → is_terminated st ≡ true) →
    length (H ++ (x ∷ [])) ≤ 1
then_one H x st going told = by_test (ltb 0 (length H))
    (λ some. absurd (true≢false (sym (told (ltb-true 0 (length H) some)) ∙ going)))
    (λ none. omega (arith, ltb-false 0 (length H) none, length-append H (x ∷ [])))

unfoldable OneNoted : Noted → Type 0
OneNoted m = length m.records ≤ 1

module _ (own : ℕ) (s : Site) (H : List Written) (few : length H ≤ 1) where
  one-vote : (st : State) (willing : Bool) → (1 ≤ length H → is_terminated st ≡ true) → OneNoted (after H (vote_in st own willing s))
  unfolding OneNoted after vote_in is_terminated
  one-vote State·.Active willing told =
      pick_ind (λ m. OneNoted (after H m)) willing (record { site = write_prepare own s; records = wrote own prepare_record ∷ [] })
      (decided abort own s)
      (λ _. then_one H (wrote own prepare_record) State·.Active refl told) (λ _. then_one H (wrote own (outcome_record abort)) State·.Active refl told)
  one-vote State·.Prepared willing told = then-none H few
  one-vote State·.CommitGroup willing told = then-none H few
  one-vote State·.AbortGroup willing told = then-none H few
  one-vote State·.Committed willing told = then-none H few
  one-vote State·.Aborted willing told = then-none H few

  one-join-commit : (st : State) → (1 ≤ length H → is_terminated st ≡ true) → OneNoted (after H (join_commit_in st own s))
  unfolding OneNoted after join_commit_in is_terminated
  one-join-commit State·.Active told = then-none H few
  one-join-commit State·.Prepared told = then_one H (wrote own (group_record commit)) State·.Prepared refl told
  one-join-commit State·.CommitGroup told = then-none H few
  one-join-commit State·.AbortGroup told = then-none H few
  one-join-commit State·.Committed told = then-none H few
  one-join-commit State·.Aborted told = then-none H few

  one-join_abort : (st : State) → (1 ≤ length H → is_terminated st ≡ true) → OneNoted (after H (join_abort_in st own s))
  unfolding OneNoted after join_abort_in is_terminated
  one-join_abort State·.Active told = then_one H (wrote own (group_record abort)) State·.Active refl told
  one-join_abort State·.Prepared told = then_one H (wrote own (group_record abort)) State·.Prepared refl told
  one-join_abort State·.CommitGroup told = then-none H few
  one-join_abort State·.AbortGroup told = then-none H few
  one-join_abort State·.Committed told = then-none H few
  one-join_abort State·.Aborted told = then-none H few

one_answer : (kind own sender : ℕ) (willing : Bool) (m : Noted) → Adopted m → One (answer kind own sender willing m)
unfolding One OneNoted answer replying silent
one_answer kind own sender willing m q =
    let st : State = state_of m.site in
    let vote : Noted = after m.records (vote_in st own willing m.site) in
    let join_c : Noted = after m.records (join_commit_in st own m.site) in
    let join_a : Noted = after m.records (join_abort_in st own m.site) in
    pick_ind One (eqb kind 1) (replying 2 own sender vote)
    (pick (eqb kind 3) (replying 5 own sender join_c) (pick (eqb kind 4) (replying 5 own sender join_a)
    (pick (eqb kind 6) (replying 7 own sender m) (silent m.site m.records))))
    (λ _. one-vote own m.site m.records q.few st willing q.terminated) λ _.
    pick_ind One (eqb kind 3) (replying 5 own sender join_c) (pick (eqb kind 4) (replying 5 own sender join_a)
    (pick (eqb kind 6) (replying 7 own sender m) (silent m.site m.records)))
    (λ _. one-join-commit own m.site m.records q.few st q.terminated) λ _.
    pick_ind One (eqb kind 4) (replying 5 own sender join_a)
    (pick (eqb kind 6) (replying 7 own sender m) (silent m.site m.records))
    (λ _. one-join_abort own m.site m.records q.few st q.terminated) λ _.
    pick_ind One (eqb kind 6) (replying 7 own sender m) (silent m.site m.records) (λ _. q.few) (λ _. q.few)

one-deliver : (own n : ℕ) (willing : Bool) (row : Row) (s : Site) → One (deliver own n willing row s)
unfolding One deliver after_hearing bringing
one-deliver own n willing row s =
    one_answer row.kind own row.sender willing (adopt own n (hear own n row s)) (adopted own n (hear own n row s))

pub one_record : OneRecord
unfolding One refuse take
one_record m s bytes =
    step_ind m s (λ x. length x.records ≤ 1)
    (record {
      refusals = λ number some. omega arith;
      starts = λ asked zero active. one-start m.n m.willing s;
      delivers = λ asked row known. one-deliver m.own m.n m.willing row s;
      timeouts = λ asked. one-timeout m.own m.n m.weights m.commit m.abort s;
      crashes = λ asked. one-crash m.own s;
      recovers = λ asked. one-recover m.own s;
    })
    bytes
