-- The records that a step writes are what is new in the log, and what was written before stays.
use Rattle.std.specs.Prelude.{ℕ, Bool, true, List, [], ◌∷◌, ◌++◌, ◌≡◌}
use Rattle.std.proofs.Math.Bool.{false}
use Rattle.std.proofs.Common.{true≢false, subst, ◌∙◌, arith}
use Rattle.std.proofs.Math.Path.{refl, ap, sym}
use Rattle.choice.specs.Choice.{pick}
use Rattle.row.specs.declared.Row.{Row}
use Rattle.row.specs.Rows.{row_known}
use Rattle.site.specs.declared.Group.{Group}
use Rattle.site.specs.declared.Group.TheVariants as Group·
use Rattle.site.specs.declared.Outcome.{Outcome}
use Rattle.site.specs.declared.Outcome.TheVariants as Outcome·
use Rattle.site.specs.declared.State.TheVariants as State·
use Rattle.site.specs.declared.Site.{Site}
use Rattle.site.specs.declared.CommitQuorum.{CommitQuorum}
use Rattle.site.specs.declared.AbortQuorum.{AbortQuorum}
use Rattle.site.specs.State.{state_by, state_of}
use Rattle.site.specs.Fields.{with_up, with_coordinator, with_prepared, with_group, with_outcome, with_codes}
use Rattle.site.specs.Records.{Kind, commit, abort, LogRecord, prepare_record, group_record, outcome_record, Written, wrote}
use Rattle.site.specs.Records.{group_of, outcome_of, with_own, write_prepare, join_group, write_outcome}
use Rattle.rules.specs.Rules.{start, timeout, hear, deliver, crash, recover}
use Rattle.member.specs.declared.Logged.{Logged}
use Rattle.member.specs.Steps.{refuse, take, nothing, logging, logged}
use Rattle.member.specs.Claims.{new_group, new_outcome, new_log, LogGrows, LogsGrow}
use Rattle.member.specs.laws.Answers.{step_ind}
use Rattle.member.specs.laws.Steady.{Steady, Moved, keeps_start, keeps_timeout, keeps_deliver, keeps_crash, keeps_recover}

group-some : (k : Kind) → group_of k ≡ Group·.None → ⊥
unfolding group_of
group-some commit e = let z : ◌≡◌ {A = ℕ} 0 1 = cc in omega arith
group-some abort e = let z : ◌≡◌ {A = ℕ} 0 1 = cc in omega arith

outcome-some : (k : Kind) → outcome_of k ≡ Outcome·.None → ⊥
unfolding outcome_of
outcome-some commit e = let z : ◌≡◌ {A = ℕ} 0 1 = cc in omega arith
outcome-some abort e = let z : ◌≡◌ {A = ℕ} 0 1 = cc in omega arith

-- nothing is written yet at a record's place
unfoldable Free : LogRecord → Logged → Type 0
Free prepare_record l = l.prepare ≡ false
Free (group_record k) l = l.group ≡ Group·.None
Free (outcome_record k) l = l.outcome ≡ Outcome·.None

free-before : (y x : LogRecord) (l : Logged) → Free x (logging y l) → Free x l
unfolding Free logging
free-before prepare_record prepare_record l f = absurd (true≢false f)
free-before prepare_record (group_record k) l f = f
free-before prepare_record (outcome_record k) l f = f
free-before (group_record j) prepare_record l f = f
free-before (group_record j) (group_record k) l f = absurd (group-some j f)
free-before (group_record j) (outcome_record k) l f = f
free-before (outcome_record j) prepare_record l f = f
free-before (outcome_record j) (group_record k) l f = f
free-before (outcome_record j) (outcome_record k) l f = absurd (outcome-some j f)

logging-swapped : (y x : LogRecord) (l : Logged) → Free x (logging y l) → logging y (logging x l) ≡ logging x (logging y l)
unfolding Free logging
logging-swapped prepare_record prepare_record l f = refl
logging-swapped prepare_record (group_record k) l f = refl
logging-swapped prepare_record (outcome_record k) l f = refl
logging-swapped (group_record j) prepare_record l f = refl
logging-swapped (group_record j) (group_record k) l f = absurd (group-some j f)
logging-swapped (group_record j) (outcome_record k) l f = refl
logging-swapped (outcome_record j) prepare_record l f = refl
logging-swapped (outcome_record j) (group_record k) l f = refl
logging-swapped (outcome_record j) (outcome_record k) l f = absurd (outcome-some j f)

-- a record written last, at a place where nothing is written yet
logged-last :
    (own : ℕ) (x : LogRecord) (H : List Written) → Free x (logged H) → logged (H ++ (wrote own x ∷ [])) ≡ logging x (logged H)
unfolding logged
logged-last own x [] f = refl
logged-last own x (y ∷ H) f =
    ap (logging y.what) (logged-last own x H (free-before y.what x (logged H) f))
    ∙ logging-swapped y.what x (logged H) f

-- a place that is none now was none before

prepare-none : (before after : Bool) → (before ≡ true → after ≡ true) → after ≡ false → before ≡ false
prepare-none false after stays e = refl
prepare-none true after stays e = absurd (true≢false (sym (stays refl) ∙ e))

group-none : (before after : Group) → ((before ≡ Group·.None → ⊥) → after ≡ before) → after ≡ Group·.None → before ≡ Group·.None
group-none Group·.None after stays e = refl
group-none Group·.Commit after stays e = sym (stays (λ p. group-some commit (unfold group_of in p))) ∙ e
group-none Group·.Abort after stays e = sym (stays (λ p. group-some abort (unfold group_of in p))) ∙ e

outcome-none :
    (before after : Outcome) → ((before ≡ Outcome·.None → ⊥) → after ≡ before) → after ≡ Outcome·.None → before ≡ Outcome·.None
outcome-none Outcome·.None after stays e = refl
outcome-none Outcome·.Commit after stays e = sym (stays (λ p. outcome-some commit (unfold outcome_of in p))) ∙ e
outcome-none Outcome·.Abort after stays e = sym (stays (λ p. outcome-some abort (unfold outcome_of in p))) ∙ e

unprepared-by : (o : Outcome) (g : Group) (p : Bool) → state_by o g p ≡ State·.Active → p ≡ false
unfolding state_by
unprepared-by o g false e = refl
unprepared-by Outcome·.None Group·.None true e = cc
unprepared-by Outcome·.None Group·.Commit true e = cc
unprepared-by Outcome·.None Group·.Abort true e = cc
unprepared-by Outcome·.Commit g true e = cc
unprepared-by Outcome·.Abort g true e = cc

unprepared : (s : Site) → state_of s ≡ State·.Active → s.prepared ≡ false
unfolding state_of
unprepared s e = unprepared-by s.outcome s.group s.prepared e

abbrev log_of : Bool → Group → Outcome → Logged
log_of p g o = record { prepare = p; group = g; outcome = o }

-- a log as it was grows by nothing
grows_not : (s : Site) → LogGrows s s nothing
unfolding new_log nothing
grows_not s =
    record {
      new = sym (ap (λ p. log_of p (new_group s.group s.group) (new_outcome s.outcome s.outcome)) (no-p s.prepared)
          ∙ ap (λ g. log_of false g (new_outcome s.outcome s.outcome)) (no-g s.group)
          ∙ ap (log_of false Group·.None) (no-o s.outcome));
      prepare-stays = λ e. e;
      group-stays = λ _. refl;
      vector_stays = λ _. refl;
      outcome-stays = λ _. refl;
    }
  where
    no-p : (p : Bool) → pick p false p ≡ false
    no-p true = refl
    no-p false = refl

    no-g : (g : Group) → new_group g g ≡ Group·.None
    no-g Group·.None = unfold new_group in refl
    no-g Group·.Commit = unfold new_group in refl
    no-g Group·.Abort = unfold new_group in refl

    no-o : (o : Outcome) → new_outcome o o ≡ Outcome·.None
    no-o Outcome·.None = unfold new_outcome in refl
    no-o Outcome·.Commit = unfold new_outcome in refl
    no-o Outcome·.Abort = unfold new_outcome in refl

-- from a site as it was before the step, every small step adds what it writes
module _ (first : Site) where
  -- whether it is up, its role and its codes are no part of the log
  grows_beside :
      (up coordinator : Bool) (codes : List ℕ) (s : Site) (l : Logged) → LogGrows first s l →
      LogGrows first
      (record {
        up = up;
        coordinator = coordinator;
        prepared = s.prepared;
        group = s.group;
        joined = s.joined;
        outcome = s.outcome;
        codes = codes;
      })
      l
  unfolding new_log
  grows_beside up coordinator codes s l q =
      record {
        new = q.new;
        prepare-stays = q.prepare-stays;
        group-stays = q.group-stays;
        vector_stays = q.vector_stays;
        outcome-stays = q.outcome-stays;
      }

  grows-prepares :
      (own : ℕ) (s : Site) (l : Logged) → state_of s ≡ State·.Active → LogGrows first s l →
      Free prepare_record l × LogGrows first (write_prepare own s) (logging prepare_record l)
  unfolding Free logging new_log write_prepare with_prepared with_own with_codes
  grows-prepares own s l e q =
      let none : first.prepared ≡ false = prepare-none first.prepared s.prepared q.prepare-stays (unprepared s e) in (
        ap (λ x. x.prepare) q.new ∙ ap (λ x. pick x false s.prepared) none ∙ unprepared s e,
        record {
          new = ap (logging prepare_record) q.new
              ∙ sym (ap (λ x. log_of (pick x false true) (new_group first.group s.group) (new_outcome first.outcome s.outcome)) none);
          prepare-stays = λ _. refl;
          group-stays = q.group-stays;
          vector_stays = q.vector_stays;
          outcome-stays = q.outcome-stays;
        },
      )

  grows-joins :
      (k : Kind) (own : ℕ) (s : Site) (l : Logged) → s.group ≡ Group·.None → LogGrows first s l →
      Free (group_record k) l × LogGrows first (join_group k own s) (logging (group_record k) l)
  unfolding Free logging new_log new_group join_group with_group with_own with_codes
  grows-joins k own s l g q =
      let none : first.group ≡ Group·.None = group-none first.group s.group q.group-stays g in (
        ap (λ x. x.group) q.new ∙ ap (λ x. new_group x s.group) none ∙ g,
        record {
          new = ap (logging (group_record k)) q.new
              ∙ sym (ap (λ x. log_of (pick first.prepared false s.prepared) (new_group x (group_of k))
              (new_outcome first.outcome s.outcome)) none);
          prepare-stays = q.prepare-stays;
          group-stays = λ some. absurd (some none);
          vector_stays = λ e. absurd (group-some k e);
          outcome-stays = q.outcome-stays;
        },
      )

  grows-decides :
      (k : Kind) (own : ℕ) (s : Site) (l : Logged) → s.outcome ≡ Outcome·.None → LogGrows first s l →
      Free (outcome_record k) l × LogGrows first (write_outcome k own s) (logging (outcome_record k) l)
  unfolding Free logging new_log new_outcome write_outcome with_outcome with_own with_codes
  grows-decides k own s l o q =
      let none : first.outcome ≡ Outcome·.None = outcome-none first.outcome s.outcome q.outcome-stays o in (
        ap (λ x. x.outcome) q.new ∙ ap (λ x. new_outcome x s.outcome) none ∙ o,
        record {
          new = ap (logging (outcome_record k)) q.new
              ∙ sym (ap (λ x. log_of (pick first.prepared false s.prepared) (new_group first.group s.group)
              (new_outcome x (outcome_of k))) none);
          prepare-stays = q.prepare-stays;
          group-stays = q.group-stays;
          vector_stays = q.vector_stays;
          outcome-stays = λ some. absurd (some none);
        },
      )

  -- with the record written last
  grows-last :
      (own : ℕ) (x : LogRecord) (after : Site) (H : List Written) → Free x (logged H) × LogGrows first after (logging x (logged H)) →
      LogGrows first after (logged (H ++ (wrote own x ∷ [])))
  grows-last own x after H q = subst (LogGrows first after) (sym (logged-last own x H q.0)) q.1

  logs_steady : (own n : ℕ) → Steady own n (λ s H. LogGrows first s (logged H))
  unfolding with_up with_coordinator with_codes hear
  logs_steady own n =
      record {
        up = λ b s H q. grows_beside b s.coordinator s.codes s (logged H) q;
        role = λ b s H q. grows_beside s.up b s.codes s (logged H) q;
        writes =
            record {
              prepares = λ s H e q.
                  grows-last own prepare_record (write_prepare own s) H (grows-prepares own s (logged H) e q);
              joins = λ k s H o g q.
                  grows-last own (group_record k) (join_group k own s) H (grows-joins k own s (logged H) g q);
              decides = λ k s H o q.
                  grows-last own (outcome_record k) (write_outcome k own s) H (grows-decides k own s (logged H) o q);
            };
        hears = λ row s H e q. grows_beside s.up s.coordinator _ s (logged H) q;
        forgets = λ s H q. grows_beside s.up s.coordinator _ s (logged H) q;
      }

-- every rule's records are what is new: `new` says so

pub grows_start :
    (n : ℕ) (willing : Bool) (s : Site) → state_of s ≡ State·.Active →
    LogGrows s (start n willing s).step.site (logged (start n willing s).records)
unfolding logged
grows_start n willing s e = keeps_start n (λ t H. LogGrows s t (logged H)) (logs_steady s 0 n) willing s e (grows_not s)

pub grows-timeout :
    (own n : ℕ) (weights : List ℕ) (c : CommitQuorum) (a : AbortQuorum) (s : Site) →
    LogGrows s (timeout own n weights c a s).step.site (logged (timeout own n weights c a s).records)
unfolding logged Moved
grows-timeout own n weights c a s =
    keeps_timeout own n (λ t H. LogGrows s t (logged H)) (logs_steady s own n) weights c a s (grows_not s)

pub grows-deliver :
    (own n : ℕ) (willing : Bool) (row : Row) (s : Site) → row_known n row ≡ true →
    LogGrows s (deliver own n willing row s).step.site (logged (deliver own n willing row s).records)
unfolding logged Moved
grows-deliver own n willing row s known =
    keeps_deliver own n (λ t H. LogGrows s t (logged H)) (logs_steady s own n) willing row s known (grows_not s)

pub grows-crash : (own : ℕ) (s : Site) → LogGrows s (crash own s).step.site (logged (crash own s).records)
unfolding logged Moved
grows-crash own s = keeps_crash own 0 (λ t H. LogGrows s t (logged H)) (logs_steady s own 0) s (grows_not s)

pub grows-recover : (own : ℕ) (s : Site) → LogGrows s (recover own s).step.site (logged (recover own s).records)
unfolding logged Moved
grows-recover own s = keeps_recover own 0 (λ t H. LogGrows s t (logged H)) (logs_steady s own 0) s (grows_not s)

-- a refused step's log is as it was
pub logs_grow : LogsGrow
unfolding refuse take logged
logs_grow m s bytes =
    step_ind m s (λ a. LogGrows s a.site (logged a.records))
    (record {
      refusals = λ number some. grows_not s;
      starts = λ ready own active. grows_start m.n m.willing s active;
      delivers = λ ready row known. grows-deliver m.own m.n m.willing row s known;
      timeouts = λ ready. grows-timeout m.own m.n m.weights m.commit m.abort s;
      crashes = λ ready. grows-crash m.own s;
      recovers = λ ready. grows-recover m.own s;
    })
    bytes
