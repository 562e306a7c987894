-- What TIMEOUT does at a site.
use Rattle.std.specs.Prelude.{ℕ, ◌≤◌, ◌<◌, List, [], ◌∷◌, ◌≡◌, ltb, eqb, get_or}
use Rattle.std.proofs.Math.Bool.{true, false}
use Rattle.std.proofs.Common.{true≢false, sym, ◌∙◌, arith, get_or-set_other}
use Rattle.std.proofs.Math.Path.{refl, ap}
use Rattle.choice.specs.Choice.{pick, either}
use Rattle.choice.specs.laws.ChoiceLaws.{pick_ind}
use Rattle.vector.specs.Vector.{count}
use Rattle.row.specs.Rows.{no_row}
use Rattle.site.specs.declared.Site.{Site}
use Rattle.site.specs.declared.CommitQuorum.{CommitQuorum}
use Rattle.site.specs.declared.AbortQuorum.{AbortQuorum}
use Rattle.site.specs.declared.Outcome.TheVariants as Outcome·
use Rattle.site.specs.declared.State.{State}
use Rattle.site.specs.declared.State.TheVariants as State·
use Rattle.site.specs.State.{state_of, code_of, is_terminated, commit_reached, abort_reached}
use Rattle.site.specs.Fields.{with_coordinator, with_group, with_outcome, with_codes}
use Rattle.site.specs.Records.{Written, Kind, commit, abort, wrote, group_record, outcome_record, record_code, with_own, join_group, write_outcome}
use Rattle.rules.specs.Rules.{
  Move,
  silent,
  command_row,
  commanding,
  take_over,
  choose_group,
  decide_commit,
  decide_abort,
  timeout_in,
  timeout,
}
use Rattle.member.specs.laws.SoundSites.{group_code_lem, outcome_code}
use Rattle.member.specs.laws.Steady.{undecided}

-- the code of a site's state
abbrev pub code_in : Site → ℕ
code_in s = code_of (state_of s)

-- a site that has prepared, or more, and leads as long as it has no outcome
pub record Ready (s : Site) : Type 0 where
  pub some : 1 ≤ code_in s
  pub leads : code_in s < 4 → s.coordinator ≡ true

-- a site that has an outcome, or knows of its group's quorum
pub data Deciding (n : ℕ) (weights : List ℕ) (c : CommitQuorum) (a : AbortQuorum) (s : Site) : Type 0 where
  decided : 4 ≤ code_in s → Deciding n weights c a s
  commits : code_in s ≡ 2 → s.coordinator ≡ true → commit_reached c weights n s.codes ≡ true → Deciding n weights c a s
  aborts : code_in s ≡ 3 → s.coordinator ≡ true → abort_reached a weights n s.codes ≡ true → Deciding n weights c a s

-- the command of a state, by its code: prepared 1, groups 3 and 4, terminated 6
unfoldable pub command_of : ℕ → ℕ
command_of code = pick (eqb code 1) 1 (pick (eqb code 2) 3 (pick (eqb code 3) 4 6))

-- the code of a site that has joined a group, or written an outcome
pub joined_code : (k : Kind) (own : ℕ) (s : Site) → s.outcome ≡ Outcome·.None → code_in (join_group k own s) ≡ record_code (group_record k)
unfolding state_of join_group with_group with_own with_codes
joined_code k own s none = sym (group_code_lem k s.outcome s.prepared none)

pub decided_code : (k : Kind) (own : ℕ) (s : Site) → code_in (write_outcome k own s) ≡ record_code (outcome_record k)
unfolding state_of write_outcome with_outcome with_own with_codes
decided_code k own s = sym (outcome_code k s.group s.prepared)

pub decided-high : (k : Kind) (own : ℕ) (s : Site) → 4 ≤ code_in (write_outcome k own s)
unfolding record_code
decided-high commit own s = omega (arith, decided_code commit own s)
decided-high abort own s = omega (arith, decided_code abort own s)

-- role and up stay
pub record Stays (s t : Site) : Type 0 where
  pub role : t.coordinator ≡ s.coordinator
  pub up : t.up ≡ s.up

-- writing a record leaves them, and the other sites' entries
pub record Rest (own : ℕ) (s t : Site) : Type 0 where
  pub stays : Stays s t
  pub entries : (k : ℕ) → (k ≡ own → ⊥) → get_or t.codes k 0 ≡ get_or s.codes k 0

joined-rest : (k : Kind) (own : ℕ) (s : Site) → Rest own s (join_group k own s)
unfolding join_group with_group with_own with_codes
joined-rest k own s = record { stays = record { role = refl; up = refl }; entries = λ j other. get_or-set_other s.codes own j _ 0 other }

decided-rest : (k : Kind) (own : ℕ) (s : Site) → Rest own s (write_outcome k own s)
unfolding write_outcome with_outcome with_own with_codes
decided-rest k own s = record { stays = record { role = refl; up = refl }; entries = λ j other. get_or-set_other s.codes own j _ 0 other }

-- ACTIVE: it aborts, and sends nothing
pub record Aborts (own : ℕ) (s : Site) (m : Move) : Type 0 where
  pub none : m.step.row.kind ≡ 0
  pub outcome : 4 ≤ code_in m.step.site
  pub rest : Rest own s m.step.site

module _ (own n : ℕ) (weights : List ℕ) (c : CommitQuorum) (a : AbortQuorum) where
  -- ANY OTHER: it leads then, and sends the command of the state that it has then
  pub record Commands (s : Site) (m : Move) : Type 0 where
    pub row : m.step.row ≡ command_row (command_of (code_in m.step.site)) own n m.step.site
    pub some : 1 ≤ code_in m.step.site
    pub leads : m.step.site.coordinator ≡ true
    pub up : m.step.site.up ≡ s.up
    pub entries : (k : ℕ) → (k ≡ own → ⊥) → get_or m.step.site.codes k 0 ≡ get_or s.codes k 0
    pub in_group : Ready s → 2 ≤ code_in m.step.site
    pub decides : Deciding n weights c a s → 4 ≤ code_in m.step.site

  takes_over :
      (s : Site) (kind : ℕ) → kind ≡ command_of (code_in s) → 1 ≤ code_in s → (Ready s → 2 ≤ code_in s) → (Deciding n weights c a s → 4 ≤ code_in s) →
      Commands s (take_over kind own n s)
  unfolding take_over commanding with_coordinator state_of
  takes_over s kind e some ready deciding =
      record {
        row = ap (λ k. command_row k own n (with_coordinator true s)) e;
        some = some;
        leads = refl;
        up = refl;
        entries = λ k _. refl;
        in_group = ready;
        decides = deciding;
      }

  sends-again :
      (s : Site) (kind : ℕ) → kind ≡ command_of (code_in s) → 2 ≤ code_in s → s.coordinator ≡ true → (Deciding n weights c a s → 4 ≤ code_in s) →
      Commands s (commanding kind own n s [])
  unfolding commanding
  sends-again s kind e some leads deciding =
      record {
        row = ap (λ k. command_row k own n s) e;
        some = omega (arith, some);
        leads = leads;
        up = refl;
        entries = λ k _. refl;
        in_group = λ _. some;
        decides = deciding;
      }

  -- a record is written, and the state has the code that it leads to
  writes :
      (s t : Site) (kind code : ℕ) (records : List Written) → code_in t ≡ code → kind ≡ command_of code → 2 ≤ code → s.coordinator ≡ true → Rest own s t →
      (Deciding n weights c a s → 4 ≤ code) → Commands s (commanding kind own n t records)
  unfolding commanding
  writes s t kind code records is e some leads rest deciding =
      record {
        row = ap (λ x. command_row x own n t) (e ∙ ap command_of (sym is));
        some = omega (arith, is, some);
        leads = rest.stays.role ∙ leads;
        up = rest.stays.up;
        entries = rest.entries;
        in_group = λ _. omega (arith, is, some);
        decides = λ d. omega (arith, is, deciding d);
      }

  -- a prepared site is none of those that decide
  prepared_open : (s : Site) → code_in s ≡ 1 → Deciding n weights c a s → ⊥
  prepared_open s one (decided h) = omega (arith, h, one)
  prepared_open s one (commits h _ _) = omega (arith, h, one)
  prepared_open s one (aborts h _ _) = omega (arith, h, one)

  chooses : (s : Site) → code_in s ≡ 1 → s.outcome ≡ Outcome·.None → s.coordinator ≡ true → Commands s (choose_group own n s)
  unfolding choose_group record_code command_of
  chooses s one none leads =
      pick_ind (Commands s) (either (eqb (count n s.codes 1) n) (ltb 0 (count n s.codes 2)))
      (commanding 3 own n (join_group commit own s) (wrote own (group_record commit) ∷ []))
      (commanding 4 own n (join_group abort own s) (wrote own (group_record abort) ∷ []))
      (λ _. writes s (join_group commit own s) 3 2 _ (joined_code commit own s none) refl (omega arith) leads (joined-rest commit own s)
      (λ d. absurd (prepared_open s one d)))
      (λ _. writes s (join_group abort own s) 4 3 _ (joined_code abort own s none) refl (omega arith) leads (joined-rest abort own s)
      (λ d. absurd (prepared_open s one d)))

  commit-decides : (s : Site) → code_in s ≡ 2 → s.coordinator ≡ true → Commands s (decide_commit own n weights c s)
  unfolding decide_commit record_code command_of
  commit-decides s two leads =
      pick_ind (Commands s) (commit_reached c weights n s.codes)
      (commanding 6 own n (write_outcome commit own s) (wrote own (outcome_record commit) ∷ [])) (commanding 3 own n s [])
      (λ _. writes s (write_outcome commit own s) 6 4 _ (decided_code commit own s) refl (omega arith) leads (decided-rest commit own s) (λ _. omega arith))
      (λ less. sends-again s 3 (ap command_of (sym two)) (omega (arith, two)) leads (never less))
    where
      never : commit_reached c weights n s.codes ≡ false → Deciding n weights c a s → 4 ≤ code_in s
      never less (decided h) = h
      never less (commits _ _ e) = absurd (true≢false (sym e ∙ less))
      never less (aborts h _ _) = absurd (omega (arith, h, two))

  abort-decides : (s : Site) → code_in s ≡ 3 → s.coordinator ≡ true → Commands s (decide_abort own n weights a s)
  unfolding decide_abort record_code command_of
  abort-decides s three leads =
      pick_ind (Commands s) (abort_reached a weights n s.codes)
      (commanding 6 own n (write_outcome abort own s) (wrote own (outcome_record abort) ∷ [])) (commanding 4 own n s [])
      (λ _. writes s (write_outcome abort own s) 6 5 _ (decided_code abort own s) refl (omega arith) leads (decided-rest abort own s) (λ _. omega arith))
      (λ less. sends-again s 4 (ap command_of (sym three)) (omega (arith, three)) leads (never less))
    where
      never : abort_reached a weights n s.codes ≡ false → Deciding n weights c a s → 4 ≤ code_in s
      never less (decided h) = h
      never less (commits h _ _) = absurd (omega (arith, h, three))
      never less (aborts _ _ e) = absurd (true≢false (sym e ∙ less))

  -- a subordinate knows of no quorum that it would act by
  follows : (s : Site) → s.coordinator ≡ false → Deciding n weights c a s → 4 ≤ code_in s
  follows s e (decided h) = h
  follows s e (commits _ leads _) = absurd (true≢false (sym leads ∙ e))
  follows s e (aborts _ leads _) = absurd (true≢false (sym leads ∙ e))

  by_state : (st : State) (s : Site) → state_of s ≡ st → 1 ≤ code_of st → Commands s (timeout_in st own n weights c a s)
  unfolding timeout_in code_of is_terminated command_of
  by_state State·.Active s e some = absurd (omega (arith, some))
  by_state State·.Prepared s e some =
      let one : code_in s ≡ 1 = ap code_of e in
      pick_ind (Commands s) s.coordinator (choose_group own n s) (take_over 1 own n s)
      (λ leads. chooses s one (undecided s State·.Prepared e refl) leads)
      (λ no_lead. takes_over s 1 (ap command_of (sym one)) (omega (arith, one))
      (λ r. absurd (true≢false (sym (r.leads (omega (arith, one))) ∙ no_lead))) (follows s no_lead))
  by_state State·.CommitGroup s e some =
      let two : code_in s ≡ 2 = ap code_of e in
      pick_ind (Commands s) s.coordinator (decide_commit own n weights c s) (take_over 3 own n s)
      (commit-decides s two)
      (λ no_lead. takes_over s 3 (ap command_of (sym two)) (omega (arith, two)) (λ _. omega (arith, two)) (follows s no_lead))
  by_state State·.AbortGroup s e some =
      let three : code_in s ≡ 3 = ap code_of e in
      pick_ind (Commands s) s.coordinator (decide_abort own n weights a s) (take_over 4 own n s)
      (abort-decides s three)
      (λ no_lead. takes_over s 4 (ap command_of (sym three)) (omega (arith, three)) (λ _. omega (arith, three)) (follows s no_lead))
  by_state State·.Committed s e some =
      let four : code_in s ≡ 4 = ap code_of e in
      takes_over s 6 (ap command_of (sym four)) (omega (arith, four)) (λ _. omega (arith, four)) (λ _. omega (arith, four))
  by_state State·.Aborted s e some =
      let five : code_in s ≡ 5 = ap code_of e in
      takes_over s 6 (ap command_of (sym five)) (omega (arith, five)) (λ _. omega (arith, five)) (λ _. omega (arith, five))

  pub timeout-commands : (s : Site) → 1 ≤ code_in s → Commands s (timeout own n weights c a s)
  unfolding timeout
  timeout-commands s some = by_state (state_of s) s refl some

  active_aborts : (st : State) (s : Site) → code_of st ≡ 0 → Aborts own s (timeout_in st own n weights c a s)
  unfolding timeout_in code_of silent no_row
  active_aborts State·.Active s e = record { none = refl; outcome = decided-high abort own s; rest = decided-rest abort own s }
  active_aborts State·.Prepared s e = absurd (omega (arith, e))
  active_aborts State·.CommitGroup s e = absurd (omega (arith, e))
  active_aborts State·.AbortGroup s e = absurd (omega (arith, e))
  active_aborts State·.Committed s e = absurd (omega (arith, e))
  active_aborts State·.Aborted s e = absurd (omega (arith, e))

  pub timeout-aborts : (s : Site) → code_in s ≡ 0 → Aborts own s (timeout own n weights c a s)
  unfolding timeout
  timeout-aborts s none = active_aborts (state_of s) s none
