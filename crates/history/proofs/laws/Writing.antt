-- Writing a record keeps what is true of history and site.
use Rattle.std.specs.Prelude.{ℕ, ◌+◌, ◌≤◌, ◌<◌, true, false, List, [], ◌∷◌, ◌++◌, ◌≡◌, refl, eqb, set}
use Rattle.std.proofs.Common.{ap, ◌∙◌, arith, eq-eqb}
use Rattle.choice.specs.Choice.{pick}
use Rattle.choice.specs.laws.ChoiceLaws.{pick-on, pick_off}
use Rattle.bits.specs.Bits.{has_bit}
use Rattle.site.specs.declared.Site.{Site}
use Rattle.site.specs.Fields.{with_prepared, with_group, with_outcome, with_codes}
use Rattle.site.specs.Records.{Written, LogRecord, prepare_record, group_record, outcome_record, commit, abort, wrote, record_code, group_of, outcome_of, with_own, write_prepare, join_group, write_outcome}
use Rattle.choice.specs.laws.Cases.{at_and_elsewhere, by_equal}
use Rattle.history.specs.Safe.{written_at}
use Rattle.history.proofs.laws.HistoryLaws.{Grown, at-append, at_own, at_other, grown_append}
use Rattle.history.proofs.laws.Weights.{weigh_records, records_grow}
use Rattle.history.proofs.laws.Truth.{Terms, AllPrepared, AbortGround, by-quorum, by-unprepared, TrueAt, TrueHistory, TrueVector, TrueLog, TrueSite}
use Rattle.history.proofs.laws.TruthLaws.{all-prepared-grows, vector_grows, vector_set}

-- the history after a site has written a record
abbrev pub with_record : List Written → ℕ → LogRecord → List Written
with_record H own x = H ++ (wrote own x ∷ [])

-- the site after it has written a record
unfoldable pub write_record : LogRecord → ℕ → Site → Site
write_record prepare_record own s = write_prepare own s
write_record (group_record k) own s = join_group k own s
write_record (outcome_record k) own s = write_outcome k own s

-- why a site may abort: it has not prepared, or an abort stands to reason already
pub data AbortCause (t : Terms) (H : List Written) (own : ℕ) : Type 0 where
  unprepared : written_at own 1 H ≡ 0 → AbortCause t H own
  grounded : AbortGround t H → AbortCause t H own

-- when a site may write a record: its place is free, and
abbrev pub May : Terms → List Written → ℕ → LogRecord → Type 0
May t H own prepare_record = (written_at own 1 H ≡ 0) × (written_at own 5 H ≡ 0) × (has_bit t.willing own ≡ true)
May t H own (group_record commit) = (written_at own 2 H + written_at own 3 H ≡ 0) × AllPrepared t.n H
May t H own (group_record abort) = written_at own 2 H + written_at own 3 H ≡ 0
May t H own (outcome_record commit) =
    (written_at own 4 H + written_at own 5 H ≡ 0) × (t.commit ≤ weigh_records t.weight t.n 2 H)
May t H own (outcome_record abort) = (written_at own 4 H + written_at own 5 H ≡ 0) × AbortCause t H own

module _ (H : List Written) (own : ℕ) (x : LogRecord) where
  -- the counts after writing: at the site itself, and elsewhere
  pub own-counts : (code : ℕ) → written_at own code (with_record H own x) ≡ written_at own code H + pick (eqb (record_code x) code) 1 0
  own-counts code = at-append own code H (wrote own x ∷ []) ∙ ap (λ k. written_at own code H + k) (at_own own code x)

  pub other-counts : (j code : ℕ) → (j ≡ own → ⊥) → written_at j code (with_record H own x) ≡ written_at j code H
  other-counts j code other = omega (arith, at-append j code H (wrote own x ∷ []), at_other own j code x other)

  pub record_grows : Grown H (with_record H own x)
  record_grows = grown_append H (wrote own x ∷ [])

  -- records of another code stay as they are
  other_code : (code : ℕ) → eqb (record_code x) code ≡ false → (j : ℕ) → written_at j code (with_record H own x) ≡ written_at j code H
  other_code code e =
      at_and_elsewhere (λ j. written_at j code (with_record H own x) ≡ written_at j code H) own
      (omega (arith, own-counts code, pick_off {A = ℕ} (eqb (record_code x) code) 1 0 e)) (λ j other. other-counts j code other)

-- the counts at a site that has written a record
record OwnCounts (H : List Written) (own : ℕ) (x : LogRecord) : Type 0 where
  prepares : written_at own 1 (with_record H own x) ≡ written_at own 1 H + pick (eqb (record_code x) 1) 1 0
  commit_groups_lem : written_at own 2 (with_record H own x) ≡ written_at own 2 H + pick (eqb (record_code x) 2) 1 0
  abort_groups_lem : written_at own 3 (with_record H own x) ≡ written_at own 3 H + pick (eqb (record_code x) 3) 1 0
  commits : written_at own 4 (with_record H own x) ≡ written_at own 4 H + pick (eqb (record_code x) 4) 1 0
  aborts : written_at own 5 (with_record H own x) ≡ written_at own 5 H + pick (eqb (record_code x) 5) 1 0

counts : (H : List Written) (own : ℕ) (x : LogRecord) → OwnCounts H own x
counts H own x =
    record {
      prepares = own-counts H own x 1;
      commit_groups_lem = own-counts H own x 2;
      abort_groups_lem = own-counts H own x 3;
      commits = own-counts H own x 4;
      aborts = own-counts H own x 5;
    }

-- history

-- other sites stay true
other_true : (t : Terms) (H : List Written) (own : ℕ) (x : LogRecord) (j : ℕ) → (j ≡ own → ⊥) → TrueAt t H j →
    TrueAt t (with_record H own x) j
other_true t H own x j other a =
    record {
      below = λ code h. a.below code (omega (arith, other-counts H own x j code other));
      one-prepare = omega (arith, other-counts H own x j 1 other);
      one-group = omega (arith, other-counts H own x j 2 other, other-counts H own x j 3 other);
      one-outcome = omega (arith, other-counts H own x j 4 other, other-counts H own x j 5 other);
      is_willing_lem = λ h. a.is_willing_lem (omega (arith, other-counts H own x j 1 other));
    }

-- the site that writes stays within one record of each place
own_bounds : (t : Terms) (H : List Written) (own : ℕ) (x : LogRecord) → OwnCounts H own x → May t H own x → TrueAt t H own →
    (written_at own 1 (with_record H own x) ≤ 1) ×
    (written_at own 2 (with_record H own x) + written_at own 3 (with_record H own x) ≤ 1) ×
    (written_at own 4 (with_record H own x) + written_at own 5 (with_record H own x) ≤ 1)
unfolding record_code
own_bounds t H own prepare_record k may a = omega arith
own_bounds t H own (group_record commit) k may a = omega arith
own_bounds t H own (group_record abort) k may a = omega arith
own_bounds t H own (outcome_record commit) k may a = omega arith
own_bounds t H own (outcome_record abort) k may a = omega arith

own-willing : (t : Terms) (H : List Written) (own : ℕ) (x : LogRecord) → OwnCounts H own x → May t H own x → TrueAt t H own →
    1 ≤ written_at own 1 (with_record H own x) → has_bit t.willing own ≡ true
unfolding record_code
own-willing t H own prepare_record k may a h = may.2
own-willing t H own (group_record commit) k may a h = a.is_willing_lem (omega arith)
own-willing t H own (group_record abort) k may a h = a.is_willing_lem (omega arith)
own-willing t H own (outcome_record commit) k may a h = a.is_willing_lem (omega arith)
own-willing t H own (outcome_record abort) k may a h = a.is_willing_lem (omega arith)

own_true : (t : Terms) (H : List Written) (own : ℕ) (x : LogRecord) → own < t.n → May t H own x → TrueAt t H own →
    TrueAt t (with_record H own x) own
own_true t H own x less may a =
    record {
      below = λ code h. less;
      one-prepare = (own_bounds t H own x (counts H own x) may a).0;
      one-group = (own_bounds t H own x (counts H own x) may a).1;
      one-outcome = (own_bounds t H own x (counts H own x) may a).2;
      is_willing_lem = own-willing t H own x (counts H own x) may a;
    }

-- a commit group record means that all have prepared
commit-group-after : (t : Terms) (H : List Written) (own : ℕ) (x : LogRecord) → May t H own x → TrueHistory t H →
    (j : ℕ) → 1 ≤ written_at j 2 (with_record H own x) → AllPrepared t.n H
unfolding record_code
commit-group-after t H own prepare_record may a j h = a.commit-group j (omega (arith, other_code H own prepare_record 2 refl j))
commit-group-after t H own (group_record commit) may a j h = may.1
commit-group-after t H own (group_record abort) may a j h =
    a.commit-group j (omega (arith, other_code H own (group_record abort) 2 refl j))
commit-group-after t H own (outcome_record commit) may a j h =
    a.commit-group j (omega (arith, other_code H own (outcome_record commit) 2 refl j))
commit-group-after t H own (outcome_record abort) may a j h =
    a.commit-group j (omega (arith, other_code H own (outcome_record abort) 2 refl j))

-- a commit means that the commit group weighs enough
commit-outcome-after : (t : Terms) (H : List Written) (own : ℕ) (x : LogRecord) → May t H own x → TrueHistory t H →
    (j : ℕ) → 1 ≤ written_at j 4 (with_record H own x) → t.commit ≤ weigh_records t.weight t.n 2 H
unfolding record_code
commit-outcome-after t H own prepare_record may a j h =
    a.commit-outcome j (omega (arith, other_code H own prepare_record 4 refl j))
commit-outcome-after t H own (group_record commit) may a j h =
    a.commit-outcome j (omega (arith, other_code H own (group_record commit) 4 refl j))
commit-outcome-after t H own (group_record abort) may a j h =
    a.commit-outcome j (omega (arith, other_code H own (group_record abort) 4 refl j))
commit-outcome-after t H own (outcome_record commit) may a j h = may.1
commit-outcome-after t H own (outcome_record abort) may a j h =
    a.commit-outcome j (omega (arith, other_code H own (outcome_record abort) 4 refl j))

-- a site that aborted unprepared never prepares
unprepared-stays : (t : Terms) (H : List Written) (own : ℕ) (x : LogRecord) → May t H own x →
    (i : ℕ) → 1 ≤ written_at i 5 H → written_at i 1 H ≡ 0 → written_at i 1 (with_record H own x) ≡ 0
unfolding record_code
unprepared-stays t H own prepare_record may i aborted none =
    by_equal i own (λ e. absurd (omega (arith, rw e at aborted)))
    (λ other. omega (arith, other-counts H own prepare_record i 1 other))
unprepared-stays t H own (group_record commit) may i aborted none = omega (arith, other_code H own (group_record commit) 1 refl i)
unprepared-stays t H own (group_record abort) may i aborted none = omega (arith, other_code H own (group_record abort) 1 refl i)
unprepared-stays t H own (outcome_record commit) may i aborted none = omega (arith, other_code H own (outcome_record commit) 1 refl i)
unprepared-stays t H own (outcome_record abort) may i aborted none = omega (arith, other_code H own (outcome_record abort) 1 refl i)

ground-stays : (t : Terms) (H : List Written) (own : ℕ) (x : LogRecord) → May t H own x → AbortGround t H →
    AbortGround t (with_record H own x)
ground-stays t H own x may (by-quorum h) =
    by-quorum (omega (arith, records_grow t.weight t.n 3 (record_grows H own x)))
ground-stays t H own x may (by-unprepared i less aborted none) =
    by-unprepared i less (omega (arith, (record_grows H own x).more i 5)) (unprepared-stays t H own x may i aborted none)

-- a site aborts with its cause
cause_grounds : (t : Terms) (H : List Written) (own : ℕ) → own < t.n → May t H own (outcome_record abort) → AbortCause t H own →
    AbortGround t (with_record H own (outcome_record abort))
unfolding record_code
cause_grounds t H own less may (unprepared none) =
    by-unprepared own less (omega (arith, own-counts H own (outcome_record abort) 5))
    (omega (arith, own-counts H own (outcome_record abort) 1))
cause_grounds t H own less may (grounded g) = ground-stays t H own (outcome_record abort) may g

abort-outcome-after : (t : Terms) (H : List Written) (own : ℕ) (x : LogRecord) → own < t.n → May t H own x → TrueHistory t H →
    (j : ℕ) → 1 ≤ written_at j 5 (with_record H own x) → AbortGround t (with_record H own x)
unfolding record_code
abort-outcome-after t H own prepare_record less may a j h =
    ground-stays t H own prepare_record may (a.abort-outcome j (omega (arith, other_code H own prepare_record 5 refl j)))
abort-outcome-after t H own (group_record commit) less may a j h =
    ground-stays t H own (group_record commit) may (a.abort-outcome j (omega (arith, other_code H own (group_record commit) 5 refl j)))
abort-outcome-after t H own (group_record abort) less may a j h =
    ground-stays t H own (group_record abort) may (a.abort-outcome j (omega (arith, other_code H own (group_record abort) 5 refl j)))
abort-outcome-after t H own (outcome_record commit) less may a j h =
    ground-stays t H own (outcome_record commit) may (a.abort-outcome j (omega (arith, other_code H own (outcome_record commit) 5 refl j)))
abort-outcome-after t H own (outcome_record abort) less may a j h = cause_grounds t H own less may may.1

-- a record that may be written keeps a history true
pub history-after : (t : Terms) (H : List Written) (own : ℕ) (x : LogRecord) → own < t.n → May t H own x → TrueHistory t H →
    TrueHistory t (with_record H own x)
history-after t H own x less may a =
    record {
      each =
          at_and_elsewhere (TrueAt t (with_record H own x)) own (own_true t H own x less may (a.each own))
          (λ j other. other_true t H own x j other (a.each j));
      commit-group = λ j h. all-prepared-grows t.n (record_grows H own x) (commit-group-after t H own x may a j h);
      commit-outcome = λ j h.
          omega (arith, commit-outcome-after t H own x may a j h, records_grow t.weight t.n 2 (record_grows H own x));
      abort-outcome = abort-outcome-after t H own x less may a;
    }

-- site

-- a vector in which the site's own entry becomes the code of the record it writes
own-entry : (n : ℕ) (H : List Written) (own : ℕ) (x : LogRecord) (v : List ℕ) → own < 16 → TrueVector n H v →
    TrueVector n (with_record H own x) (set v own (record_code x))
own-entry n H own x v room t =
    vector_set v own (record_code x) room (vector_grows (record_grows H own x) t)
    (λ h. omega (arith, own-counts H own x (record_code x), counted))
  where
    counted : ◌≡◌ {A = ℕ} (pick (eqb (record_code x) (record_code x)) 1 0) 1
    counted = pick-on (eqb (record_code x) (record_code x)) 1 0 (eq-eqb (record_code x) (record_code x) refl)

log-after : (t : Terms) (H : List Written) (own : ℕ) (x : LogRecord) (s : Site) → OwnCounts H own x → May t H own x →
    TrueLog own H s.prepared s.group s.outcome →
    TrueLog own (with_record H own x) (write_record x own s).prepared (write_record x own s).group (write_record x own s).outcome
unfolding record_code write_record write_prepare join_group write_outcome with_own with_prepared with_group with_outcome with_codes group_of outcome_of
log-after t H own prepare_record s k may l = omega arith
log-after t H own (group_record commit) s k may l = omega arith
log-after t H own (group_record abort) s k may l = omega arith
log-after t H own (outcome_record commit) s k may l = omega arith
log-after t H own (outcome_record abort) s k may l = omega arith

codes-after : (x : LogRecord) (own : ℕ) (s : Site) → (write_record x own s).codes ≡ set s.codes own (record_code x)
unfolding record_code write_record write_prepare join_group write_outcome with_own with_prepared with_group with_outcome with_codes
codes-after prepare_record own s = refl
codes-after (group_record k) own s = refl
codes-after (outcome_record k) own s = refl

joined-after : (n : ℕ) (H : List Written) (own : ℕ) (x : LogRecord) (s : Site) → own < 16 → TrueSite n own H s →
    TrueVector n (with_record H own x) (write_record x own s).joined
unfolding write_record write_prepare join_group write_outcome with_own with_prepared with_group with_outcome with_codes
joined-after n H own prepare_record s room a = vector_grows (record_grows H own prepare_record) a.joined
joined-after n H own (group_record k) s room a = own-entry n H own (group_record k) s.codes room a.codes
joined-after n H own (outcome_record k) s room a = vector_grows (record_grows H own (outcome_record k)) a.joined

-- a record that may be written keeps its site true
pub site-after : (t : Terms) (H : List Written) (own : ℕ) (x : LogRecord) (s : Site) → own < 16 → May t H own x →
    TrueSite t.n own H s → TrueSite t.n own (with_record H own x) (write_record x own s)
site-after t H own x s room may a =
    record {
      log = log-after t H own x s (counts H own x) may a.log;
      codes = rw codes-after (own-entry t.n H own x s.codes room a.codes);
      joined = joined-after t.n H own x s room a;
    }
