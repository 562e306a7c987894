-- Truths grow with the history; what a state says; one outcome.
use Rattle.std.specs.Prelude.{ℕ, ◌+◌, ◌≤◌, ◌<◌, Bool, true, false, List, ◌++◌, ◌≡◌, refl, get_or, set}
use Rattle.std.proofs.Common.{◌∙◌, arith, length-set}
use Rattle.std.proofs.lemmas.List.{get_or-replicate, length-replicate}
use Rattle.choice.specs.laws.ChoiceLaws.{pick_ind, set_ind}
use Rattle.vector.specs.Vector.{weigh}
use Rattle.merging.specs.Merging.{rises, merge_entry, is_other, merging}
use Rattle.merging.proofs.MergeLaws.{merging-length, merging-entry}
use Rattle.row.specs.declared.Row.{Row}
use Rattle.site.specs.declared.Group.{Group}
use Rattle.site.specs.declared.Group.TheVariants as Group·
use Rattle.site.specs.declared.Outcome.{Outcome}
use Rattle.site.specs.declared.Outcome.TheVariants as Outcome·
use Rattle.site.specs.declared.State.{State}
use Rattle.site.specs.declared.State.TheVariants as State·
use Rattle.site.specs.declared.Site.{Site}
use Rattle.site.specs.State.{state_by, state_of, code_of, is_terminated, is_active}
use Rattle.site.specs.Fields.{zero_vector}
use Rattle.site.specs.Records.{Written}
use Rattle.choice.specs.Places.{sum_to}
use Rattle.history.specs.Safe.{written_at}
use Rattle.history.proofs.laws.HistoryLaws.{Grown, at-append, grown_append}
use Rattle.history.proofs.laws.Weights.{weigh_records, weight-from, weights_apart, entries-backed}
use Rattle.history.proofs.laws.Truth.{Terms, AllPrepared, AbortGround, by-quorum, by-unprepared, TrueHistory, TrueCode, TrueVector, TrueLog, TrueSite, TrueRow, Says}

-- growth

pub all-prepared-grows : (n : ℕ) {H K : List Written} → Grown H K → AllPrepared n H → AllPrepared n K
all-prepared-grows n g all = record { prepared = λ i h. omega (arith, g.more i 1, all.prepared i h) }

pub code_grows : (i code : ℕ) {H K : List Written} → Grown H K → TrueCode H i code → TrueCode K i code
code_grows i code g true-code h = omega (arith, g.more i code, true-code h)

pub vector_grows : {n : ℕ} {v : List ℕ} {H K : List Written} → Grown H K → TrueVector n H v → TrueVector n K v
vector_grows {v = v} g t = record { codes = λ i h. code_grows i (get_or v i 0) g (t.codes i h); long = t.long }

pub row-grows : {n : ℕ} {r : Row} {H K : List Written} → Grown H K → TrueRow n H r → TrueRow n K r
row-grows {n} {r} g t =
    record {
      codes = λ i h. code_grows i (get_or r.codes i 0) g (t.codes i h);
      join = λ e. all-prepared-grows n g (t.join e);
    }

-- records of other sites leave a site's log
pub site-grows : {n j : ℕ} {s : Site} {H : List Written} (K : List Written) → ((code : ℕ) → written_at j code K ≡ 0) →
    TrueSite n j H s → TrueSite n j (H ++ K) s
site-grows {j = j} {H = H} K none t =
    record {
      log =
          record {
            prepares = same 1 t.log.prepares;
            commit_groups_lem = same 2 t.log.commit_groups_lem;
            abort_groups_lem = same 3 t.log.abort_groups_lem;
            commit-outcomes = same 4 t.log.commit-outcomes;
            abort-outcomes = same 5 t.log.abort-outcomes;
          };
      codes = vector_grows (grown_append H K) t.codes;
      joined = vector_grows (grown_append H K) t.joined;
    }
  where
    same : (code : ℕ) {x : ℕ} → written_at j code H ≡ x → written_at j code (H ++ K) ≡ x
    same code e = omega (arith, at-append j code H K, none code)

-- vectors

-- all 0 is true
pub zero_true : (n : ℕ) (H : List Written) → n ≤ 16 → TrueVector n H zero_vector
unfolding zero_vector
zero_true n H few =
    record {
      codes = λ i less some. absurd (omega (arith, get_or-replicate {A = ℕ} 16 i 0 0 (omega arith)));
      long = length-replicate {A = ℕ} 16 0;
    }

-- a true code put into a true vector
pub vector_set : {n : ℕ} {H : List Written} (v : List ℕ) (i code : ℕ) → i < 16 → TrueVector n H v → TrueCode H i code →
    TrueVector n H (set v i code)
vector_set {n} {H} v i code room t true-code =
    record {
      codes = λ j h. set_ind (λ x. TrueCode H j x) v i j code 0 (omega arith) (λ e. rw e true-code) (λ e. t.codes j h);
      long = length-set v i code ∙ t.long;
    }

-- merged entries are true
entry-merge : (H : List Written) (i held said : ℕ) → TrueCode H i held → TrueCode H i said → TrueCode H i (merge_entry held said)
unfolding merge_entry
entry-merge H i held said true-held true-said =
    pick_ind (TrueCode H i) (rises held said) said held (λ _. true-said) (λ _. true-held)

pub vector_merge : {n : ℕ} {H : List Written} (own sender : ℕ) (said v : List ℕ) → n ≤ 16 →
    ((i : ℕ) → i < n → TrueCode H i (get_or said i 0)) → TrueVector n H v → TrueVector n H (merging n own sender said v).codes
vector_merge {n} {H} own sender said v room true-said t =
    record {
      codes = λ i h.
          rw (merging-entry n own sender said v i (omega arith))
          (pick_ind (TrueCode H i) (is_other n own i) (merge_entry (get_or v i 0) (get_or said i 0)) (get_or v i 0)
          (λ _. entry-merge H i (get_or v i 0) (get_or said i 0) (t.codes i h) (true-said i h)) (λ _. t.codes i h));
      long = merging-length n own sender said v ∙ t.long;
    }

-- entries of a true vector weigh no more than the records
pub quorum-backed : (weight : ℕ → ℕ) (n code : ℕ) {v : List ℕ} {H : List Written} → 1 ≤ code → TrueVector n H v →
    weigh weight n v code ≤ weigh_records weight n code H
quorum-backed weight n code {v} {H} some t =
    entries-backed weight n code v H (λ i h e. rw e at (t.codes i h (omega arith)))

-- what a state says

says-by : (own : ℕ) (H : List Written) (o : Outcome) (g : Group) (p : Bool) → TrueLog own H p g o → Says (state_by o g p) own H
unfolding state_by
says-by own H Outcome·.Commit g p t = omega arith
says-by own H Outcome·.Abort g p t = omega arith
says-by own H Outcome·.None Group·.Commit p t = omega arith
says-by own H Outcome·.None Group·.Abort p t = omega arith
says-by own H Outcome·.None Group·.None true t = omega arith
says-by own H Outcome·.None Group·.None false t = omega arith

pub says : {n own : ℕ} {H : List Written} {s : Site} → TrueSite n own H s → Says (state_of s) own H
unfolding state_of
says {own = own} {H = H} {s = s} t = says-by own H s.outcome s.group s.prepared t.log

-- the code of a state is true
pub says_code : (st : State) (own : ℕ) (H : List Written) → Says st own H → TrueCode H own (code_of st)
unfolding code_of
says_code State·.Active own H t h = omega arith
says_code State·.Prepared own H t h = omega arith
says_code State·.CommitGroup own H t h = omega arith
says_code State·.AbortGroup own H t h = omega arith
says_code State·.Committed own H t h = omega arith
says_code State·.Aborted own H t h = omega arith

-- not terminated: no outcome is written
pub says_open : (st : State) (own : ℕ) (H : List Written) → is_terminated st ≡ false → Says st own H →
    written_at own 4 H + written_at own 5 H ≡ 0
unfolding is_terminated
says_open State·.Active own H e t = omega arith
says_open State·.Prepared own H e t = omega arith
says_open State·.CommitGroup own H e t = omega arith
says_open State·.AbortGroup own H e t = omega arith
says_open State·.Committed own H e t = let z : ◌≡◌ {A = ℕ} 0 1 = cc in absurd (omega arith)
says_open State·.Aborted own H e t = let z : ◌≡◌ {A = ℕ} 0 1 = cc in absurd (omega arith)

-- prepared: not active
pub says_not_active : (st : State) (own : ℕ) (H : List Written) → 1 ≤ written_at own 1 H → Says st own H → is_active st ≡ false
unfolding is_active
says_not_active State·.Active own H h t = absurd (omega arith)
says_not_active State·.Prepared own H h t = refl
says_not_active State·.CommitGroup own H h t = refl
says_not_active State·.AbortGroup own H h t = refl
says_not_active State·.Committed own H h t = refl
says_not_active State·.Aborted own H h t = refl

-- active: nothing is written
pub says_active : (st : State) (own : ℕ) (H : List Written) → is_active st ≡ true → Says st own H → Says State·.Active own H
unfolding is_active
says_active State·.Active own H e t = t
says_active State·.Prepared own H e t = let z : ◌≡◌ {A = ℕ} 0 1 = cc in absurd (omega arith)
says_active State·.CommitGroup own H e t = let z : ◌≡◌ {A = ℕ} 0 1 = cc in absurd (omega arith)
says_active State·.AbortGroup own H e t = let z : ◌≡◌ {A = ℕ} 0 1 = cc in absurd (omega arith)
says_active State·.Committed own H e t = let z : ◌≡◌ {A = ℕ} 0 1 = cc in absurd (omega arith)
says_active State·.Aborted own H e t = let z : ◌≡◌ {A = ℕ} 0 1 = cc in absurd (omega arith)

-- outcomes

-- a commit: every site has prepared
pub commit-prepared : (t : Terms) (H : List Written) → TrueHistory t H → 1 ≤ t.commit → (j : ℕ) → 1 ≤ written_at j 4 H →
    AllPrepared t.n H
commit-prepared t H true_of some j h =
    from (weight-from t.weight t.n 2 H (omega (arith, true_of.commit-outcome j h)))
  where
    from : (i : ℕ) × (i < t.n) × (1 ≤ written_at i 2 H) → AllPrepared t.n H
    from (i, less, joined) = true_of.commit-group i joined

-- commit and abort never both, where the quorums together weigh more than all sites
pub not_both : (t : Terms) (H : List Written) → TrueHistory t H → 1 ≤ t.commit → sum_to t.weight t.n < t.commit + t.abort →
    (i j : ℕ) → 1 ≤ written_at i 4 H → 1 ≤ written_at j 5 H → ⊥
not_both t H true_of some more i j c a = clash (true_of.abort-outcome j a)
  where
    clash : AbortGround t H → ⊥
    clash (by-quorum h) =
        omega (
          arith,
          true_of.commit-outcome i c,
          weights_apart t.weight t.n 2 3 H (λ k. (true_of.each k).one-group),
        )
    clash (by-unprepared k less aborted none) = omega (arith, (commit-prepared t H true_of some i c).prepared k less)
