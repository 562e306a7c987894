-- What each of the small steps keeps, every rule's move keeps.
use Rattle.std.specs.Prelude.{ℕ, ◌≤◌, Bool, ◌≡◌, ltb, leb, eqb, set}
use Rattle.std.proofs.Math.Bool.{true, false}
use Rattle.std.proofs.Common.{true≢false, ap, sym, subst, ◌∙◌, arith}
use Rattle.std.proofs.lemmas.Bool.{false≢true}
use mathlib.Core.List.{List, [], ◌∷◌, ◌++◌, append-nil}
use Rattle.std.proofs.Math.Path.{refl}
use Rattle.choice.specs.Choice.{pick, both, either}
use Rattle.choice.specs.laws.ChoiceLaws.{pick_ind, both-second}
use Rattle.vector.specs.Vector.{count, lowest_outcome}
use Rattle.row.specs.declared.Row.{Row}
use Rattle.row.specs.Rows.{codes_known, row_known}
use Rattle.site.specs.declared.Group.{Group}
use Rattle.site.specs.declared.Group.TheVariants as Group·
use Rattle.site.specs.declared.Outcome.{Outcome}
use Rattle.site.specs.declared.Outcome.TheVariants as Outcome·
use Rattle.site.specs.declared.State.{State}
use Rattle.site.specs.declared.State.TheVariants as State·
use Rattle.site.specs.declared.Site.{Site}
use Rattle.site.specs.declared.CommitQuorum.{CommitQuorum}
use Rattle.site.specs.declared.AbortQuorum.{AbortQuorum}
use Rattle.site.specs.State.{state_by, state_of, code_of, is_terminated, is_active, commit_reached, abort_reached}
use Rattle.site.specs.Fields.{with_up, with_coordinator, with_codes}
use Rattle.site.specs.Records.{
  Written,
  wrote,
  Kind,
  commit,
  abort,
  prepare_record,
  group_record,
  outcome_record,
  write_prepare,
  join_group,
  write_outcome,
}
use Rattle.rules.specs.Rules.{
  Move,
  Noted,
  silent,
  commanding,
  replying,
  start,
  take_over,
  choose_group,
  decide_commit,
  decide_abort,
  timeout_in,
  timeout,
  hear,
  adopt_code,
  adopt,
  vote_in,
  join_commit_in,
  join_abort_in,
  after,
  answer,
  bringing,
  after_hearing,
  deliver,
  kept_vector,
  crash,
  restart,
  recover,
}

-- the small steps by which site `own` writes a record, on a site and the records written so far
pub record Writes (own : ℕ) (Q : Site → List Written → Type 0) : Type 0 where
  pub prepares :
      (s : Site) (H : List Written) → state_of s ≡ State·.Active → Q s H →
      Q (write_prepare own s) (H ++ (wrote own prepare_record ∷ []))
  pub joins :
      (k : Kind) (s : Site) (H : List Written) → s.outcome ≡ Outcome·.None → s.group ≡ Group·.None → Q s H →
      Q (join_group k own s) (H ++ (wrote own (group_record k) ∷ []))
  pub decides :
      (k : Kind) (s : Site) (H : List Written) → s.outcome ≡ Outcome·.None → Q s H →
      Q (write_outcome k own s) (H ++ (wrote own (outcome_record k) ∷ []))

-- all small steps of site `own` among n
pub record Steady (own n : ℕ) (Q : Site → List Written → Type 0) : Type 0 where
  pub up : (b : Bool) (s : Site) (H : List Written) → Q s H → Q (with_up b s) H
  pub role : (b : Bool) (s : Site) (H : List Written) → Q s H → Q (with_coordinator b s) H
  pub writes : Writes own Q
  pub hears : (row : Row) (s : Site) (H : List Written) → codes_known n row.codes ≡ true → Q s H → Q (hear own n row s) H
  pub forgets :
      (s : Site) (H : List Written) → Q s H →
      Q (with_codes (set (kept_vector s.group s.joined) own (code_of (state_of s))) s) H

-- a site that is not terminated has no outcome
undecided-by : (o : Outcome) (g : Group) (p : Bool) → is_terminated (state_by o g p) ≡ false → o ≡ Outcome·.None
unfolding state_by is_terminated
undecided-by Outcome·.None g p e = refl
undecided-by Outcome·.Commit g p e = absurd (true≢false e)
undecided-by Outcome·.Abort g p e = absurd (true≢false e)

pub undecided : (s : Site) (st : State) → state_of s ≡ st → is_terminated st ≡ false → s.outcome ≡ Outcome·.None
unfolding state_of
undecided s st e t = undecided-by s.outcome s.group s.prepared (ap is_terminated e ∙ t)

pub active_undecided : (s : Site) → state_of s ≡ State·.Active → s.outcome ≡ Outcome·.None
unfolding is_terminated
active_undecided s e = undecided s State·.Active e refl

-- a site that may join a group, active or prepared, is in none
ungrouped-by : (o : Outcome) (g : Group) (p : Bool) → code_of (state_by o g p) ≤ 1 → g ≡ Group·.None
unfolding state_by code_of
ungrouped-by o Group·.None p e = refl
ungrouped-by Outcome·.None Group·.Commit p e = absurd (omega arith)
ungrouped-by Outcome·.None Group·.Abort p e = absurd (omega arith)
ungrouped-by Outcome·.Commit Group·.Commit p e = absurd (omega arith)
ungrouped-by Outcome·.Commit Group·.Abort p e = absurd (omega arith)
ungrouped-by Outcome·.Abort Group·.Commit p e = absurd (omega arith)
ungrouped-by Outcome·.Abort Group·.Abort p e = absurd (omega arith)

ungrouped : (s : Site) (st : State) → state_of s ≡ st → code_of st ≤ 1 → s.group ≡ Group·.None
unfolding state_of
ungrouped s st e h =
    ungrouped-by s.outcome s.group s.prepared (subst (λ x. code_of x ≤ 1) (sym e) h)

prepared-ungrouped : (s : Site) → state_of s ≡ State·.Prepared → s.group ≡ Group·.None
unfolding code_of
prepared-ungrouped s e = ungrouped s State·.Prepared e (omega arith)

active_ungrouped : (s : Site) → state_of s ≡ State·.Active → s.group ≡ Group·.None
unfolding code_of
active_ungrouped s e = ungrouped s State·.Active e (omega arith)

pub is_active_lem : (st : State) → is_active st ≡ true → st ≡ State·.Active
unfolding is_active
is_active_lem State·.Active e = refl
is_active_lem State·.Prepared e = absurd (false≢true e)
is_active_lem State·.CommitGroup e = absurd (false≢true e)
is_active_lem State·.AbortGroup e = absurd (false≢true e)
is_active_lem State·.Committed e = absurd (false≢true e)
is_active_lem State·.Aborted e = absurd (false≢true e)

-- a claim of a move, and of a site with records
unfoldable pub Moved : (Site → List Written → Type 0) → Move → Type 0
Moved Q m = Q m.step.site m.records

unfoldable pub Held : (Site → List Written → Type 0) → Noted → Type 0
Held Q m = Q m.site m.records

-- what holds through every write of a site holds through what it does after a merge
module _ (own n : ℕ) (Q : Site → List Written → Type 0) (writes : Writes own Q) where
  more : (s : Site) (H : List Written) → Q s H → Q s (H ++ [])
  more s H q = rw append-nil q

  pub keeps_adopt : (s : Site) → Q s [] → Held Q (adopt own n s)
  unfolding Held adopt adopt_code
  keeps_adopt s q =
      pick_ind (Held Q) (is_terminated (state_of s)) (record { site = s; records = [] })
      (adopt_code (lowest_outcome n s.codes) own s) (λ _. q) λ going.
      pick_ind (Held Q) (eqb (lowest_outcome n s.codes) 4)
      (record { site = write_outcome commit own s; records = wrote own (outcome_record commit) ∷ [] })
      (pick (eqb (lowest_outcome n s.codes) 5)
      (record { site = write_outcome abort own s; records = wrote own (outcome_record abort) ∷ [] })
      (record { site = s; records = [] }))
      (λ _. writes.decides commit s [] (undecided s (state_of s) refl going) q) λ _.
      pick_ind (Held Q) (eqb (lowest_outcome n s.codes) 5)
      (record { site = write_outcome abort own s; records = wrote own (outcome_record abort) ∷ [] })
      (record { site = s; records = [] })
      (λ _. writes.decides abort s [] (undecided s (state_of s) refl going) q) (λ _. q)

  keeps_vote_in :
      (st : State) (willing : Bool) (s : Site) (H : List Written) → state_of s ≡ st → Q s H →
      Held Q (after H (vote_in st own willing s))
  unfolding Held after vote_in
  keeps_vote_in State·.Active willing s H e q =
      pick_ind (λ m. Held Q (after H m)) willing (record { site = write_prepare own s; records = wrote own prepare_record ∷ [] })
      (record { site = write_outcome abort own s; records = wrote own (outcome_record abort) ∷ [] })
      (λ _. writes.prepares s H e q) (λ _. writes.decides abort s H (active_undecided s e) q)
  keeps_vote_in State·.Prepared willing s H e q = more s H q
  keeps_vote_in State·.CommitGroup willing s H e q = more s H q
  keeps_vote_in State·.AbortGroup willing s H e q = more s H q
  keeps_vote_in State·.Committed willing s H e q = more s H q
  keeps_vote_in State·.Aborted willing s H e q = more s H q

  keeps_join_commit_in :
      (st : State) (s : Site) (H : List Written) → state_of s ≡ st → Q s H → Held Q (after H (join_commit_in st own s))
  unfolding Held after join_commit_in is_terminated
  keeps_join_commit_in State·.Active s H e q = more s H q
  keeps_join_commit_in State·.Prepared s H e q = writes.joins commit s H (undecided s State·.Prepared e refl) (prepared-ungrouped s e) q
  keeps_join_commit_in State·.CommitGroup s H e q = more s H q
  keeps_join_commit_in State·.AbortGroup s H e q = more s H q
  keeps_join_commit_in State·.Committed s H e q = more s H q
  keeps_join_commit_in State·.Aborted s H e q = more s H q

  keeps_join_abort_in :
      (st : State) (s : Site) (H : List Written) → state_of s ≡ st → Q s H → Held Q (after H (join_abort_in st own s))
  unfolding Held after join_abort_in is_terminated
  keeps_join_abort_in State·.Active s H e q = writes.joins abort s H (active_undecided s e) (active_ungrouped s e) q
  keeps_join_abort_in State·.Prepared s H e q = writes.joins abort s H (undecided s State·.Prepared e refl) (prepared-ungrouped s e) q
  keeps_join_abort_in State·.CommitGroup s H e q = more s H q
  keeps_join_abort_in State·.AbortGroup s H e q = more s H q
  keeps_join_abort_in State·.Committed s H e q = more s H q
  keeps_join_abort_in State·.Aborted s H e q = more s H q

  pub keeps_answer : (kind sender : ℕ) (willing : Bool) (m : Noted) → Held Q m → Moved Q (answer kind own sender willing m)
  unfolding Held Moved answer replying silent
  keeps_answer kind sender willing m q =
      let vote : Noted = after m.records (vote_in (state_of m.site) own willing m.site) in
      let join_c : Noted = after m.records (join_commit_in (state_of m.site) own m.site) in
      let join_a : Noted = after m.records (join_abort_in (state_of m.site) own m.site) in
      pick_ind (Moved Q) (eqb kind 1) (replying 2 own sender vote)
      (pick (eqb kind 3) (replying 5 own sender join_c) (pick (eqb kind 4) (replying 5 own sender join_a)
      (pick (eqb kind 6) (replying 7 own sender m) (silent m.site m.records))))
      (λ _. keeps_vote_in (state_of m.site) willing m.site m.records refl q) λ _.
      pick_ind (Moved Q) (eqb kind 3) (replying 5 own sender join_c) (pick (eqb kind 4) (replying 5 own sender join_a)
      (pick (eqb kind 6) (replying 7 own sender m) (silent m.site m.records)))
      (λ _. keeps_join_commit_in (state_of m.site) m.site m.records refl q) λ _.
      pick_ind (Moved Q) (eqb kind 4) (replying 5 own sender join_a)
      (pick (eqb kind 6) (replying 7 own sender m) (silent m.site m.records))
      (λ _. keeps_join_abort_in (state_of m.site) m.site m.records refl q) λ _.
      pick_ind (Moved Q) (eqb kind 6) (replying 7 own sender m) (silent m.site m.records) (λ _. q) (λ _. q)

-- what holds through every small step holds through every rule
module _ (own n : ℕ) (Q : Site → List Written → Type 0) (steady : Steady own n Q) where
  keeps_take_over : (kind : ℕ) (s : Site) → Q s [] → Moved Q (take_over kind own n s)
  unfolding Moved take_over commanding
  keeps_take_over kind s q = steady.role true s [] q

  keeps_choose_group : (s : Site) → s.outcome ≡ Outcome·.None → s.group ≡ Group·.None → Q s [] → Moved Q (choose_group own n s)
  unfolding Moved choose_group commanding
  keeps_choose_group s o g q =
      pick_ind (Moved Q) (either (eqb (count n s.codes 1) n) (ltb 0 (count n s.codes 2)))
      (commanding 3 own n (join_group commit own s) (wrote own (group_record commit) ∷ []))
      (commanding 4 own n (join_group abort own s) (wrote own (group_record abort) ∷ []))
      (λ _. steady.writes.joins commit s [] o g q) (λ _. steady.writes.joins abort s [] o g q)

  keeps_decide_commit : (weights : List ℕ) (c : CommitQuorum) (s : Site) → s.outcome ≡ Outcome·.None → Q s [] → Moved Q (decide_commit own n weights c s)
  unfolding Moved decide_commit commanding
  keeps_decide_commit weights c s o q =
      pick_ind (Moved Q) (commit_reached c weights n s.codes)
      (commanding 6 own n (write_outcome commit own s) (wrote own (outcome_record commit) ∷ []))
      (commanding 3 own n s [])
      (λ _. steady.writes.decides commit s [] o q) (λ _. q)

  keeps_decide_abort : (weights : List ℕ) (a : AbortQuorum) (s : Site) → s.outcome ≡ Outcome·.None → Q s [] → Moved Q (decide_abort own n weights a s)
  unfolding Moved decide_abort commanding
  keeps_decide_abort weights a s o q =
      pick_ind (Moved Q) (abort_reached a weights n s.codes)
      (commanding 6 own n (write_outcome abort own s) (wrote own (outcome_record abort) ∷ []))
      (commanding 4 own n s [])
      (λ _. steady.writes.decides abort s [] o q) (λ _. q)

  keeps_timeout_in :
      (st : State) (weights : List ℕ) (c : CommitQuorum) (a : AbortQuorum) (s : Site) → state_of s ≡ st → Q s [] → Moved Q (timeout_in st own n weights c a s)
  unfolding Moved timeout_in silent is_terminated
  keeps_timeout_in State·.Active weights c a s e q = steady.writes.decides abort s [] (active_undecided s e) q
  keeps_timeout_in State·.Prepared weights c a s e q =
      pick_ind (Moved Q) s.coordinator (choose_group own n s) (take_over 1 own n s)
      (λ _. keeps_choose_group s (undecided s State·.Prepared e refl) (prepared-ungrouped s e) q) (λ _. keeps_take_over 1 s q)
  keeps_timeout_in State·.CommitGroup weights c a s e q =
      pick_ind (Moved Q) s.coordinator (decide_commit own n weights c s) (take_over 3 own n s)
      (λ _. keeps_decide_commit weights c s (undecided s State·.CommitGroup e refl) q) (λ _. keeps_take_over 3 s q)
  keeps_timeout_in State·.AbortGroup weights c a s e q =
      pick_ind (Moved Q) s.coordinator (decide_abort own n weights a s) (take_over 4 own n s)
      (λ _. keeps_decide_abort weights a s (undecided s State·.AbortGroup e refl) q) (λ _. keeps_take_over 4 s q)
  keeps_timeout_in State·.Committed weights c a s e q = keeps_take_over 6 s q
  keeps_timeout_in State·.Aborted weights c a s e q = keeps_take_over 6 s q

  pub keeps_timeout : (weights : List ℕ) (c : CommitQuorum) (a : AbortQuorum) (s : Site) → Q s [] → Moved Q (timeout own n weights c a s)
  unfolding timeout
  keeps_timeout weights c a s q = keeps_timeout_in (state_of s) weights c a s refl q

  pub keeps_deliver :
      (willing : Bool) (row : Row) (s : Site) → row_known n row ≡ true → Q s [] → Moved Q (deliver own n willing row s)
  unfolding Moved Held deliver after_hearing bringing row_known
  keeps_deliver willing row s known q =
      keeps_answer own n Q steady.writes row.kind row.sender willing (adopt own n (hear own n row s))
      (keeps_adopt own n Q steady.writes (hear own n row s)
      (steady.hears row s []
      (both-second (ltb row.sender n) (codes_known n row.codes)
      (both-second (both (leb 1 row.kind) (leb row.kind 7)) (both (ltb row.sender n) (codes_known n row.codes)) known))
      q))

  pub keeps_crash : (s : Site) → Q s [] → Moved Q (crash own s)
  unfolding Moved crash silent
  keeps_crash s q = steady.up false _ [] (steady.role false _ [] (steady.forgets s [] q))

  pub keeps_recover : (s : Site) → Q s [] → Moved Q (recover own s)
  unfolding Moved recover restart silent
  keeps_recover s q =
      pick_ind (Moved Q) (is_active (state_of s)) (restart own s) (silent (with_up true s) [])
      (λ e. steady.up true _ _ (steady.role false _ _
      (steady.writes.decides abort s [] (active_undecided s (is_active_lem (state_of s) e)) q)))
      (λ _. steady.up true s [] q)

-- START is at site 0
pub keeps_start :
    (n : ℕ) (Q : Site → List Written → Type 0) → Steady 0 n Q → (willing : Bool) (s : Site) → state_of s ≡ State·.Active →
    Q s [] → Q (start n willing s).step.site (start n willing s).records
unfolding start commanding
keeps_start n Q steady willing s e q =
    pick_ind (λ m. Q m.step.site m.records) willing
    (commanding 1 0 n (with_coordinator true (write_prepare 0 s)) (wrote 0 prepare_record ∷ []))
    (commanding 6 0 n (with_coordinator true (write_outcome abort 0 s)) (wrote 0 (outcome_record abort) ∷ []))
    (λ _. steady.role true (write_prepare 0 s) (wrote 0 prepare_record ∷ []) (steady.writes.prepares s [] e q))
    (λ _. steady.role true (write_outcome abort 0 s) (wrote 0 (outcome_record abort) ∷ []) (steady.writes.decides abort s [] (active_undecided s e) q))
