-- What a quiet day comes to: its records, rows and news, counted.
use Prim.Native.Nat.{ℕ, ◌+◌, ◌-◌, ◌*◌, ◌≤◌, ◌<◌}
use Rattle.std.specs.Prelude.{false, ◌≡◌, length}
use mathlib.Core.List.{List, ◌++◌}
use Rattle.std.proofs.Math.Path.{refl, ap}
use Rattle.std.proofs.Common.{◌∙◌, length-append}
use native.Mathlib.Omega.{arith}
use borrow.Author.Tests.{lt-ltb, ne_eqb}
use Rattle.choice.specs.laws.Cases.{by_equal}
use Rattle.choice.specs.laws.Stores.{sum_times}
use Rattle.site.specs.declared.CommitQuorum.{CommitQuorum}
use Rattle.site.specs.declared.AbortQuorum.{AbortQuorum}
use Rattle.site.specs.Fields.{blank_site}
use Rattle.site.specs.Records.{prepare_record, group_record, outcome_record, commit, record_code}
use Rattle.world.specs.Worlds.{site_of}
use Rattle.history.specs.Safe.{written_at}
use Rattle.history.proofs.laws.HistoryLaws.{at-append}
use Rattle.quiet_run.specs.Claims.{records_at, WholeLog, RoundRows, Quietly}
use Rattle.quiet_run.proofs.laws.Tables.{table_at}
use Rattle.quiet_run.proofs.laws.Sent.{sent_to, sent-length, round_rows, rows_left}
use Rattle.quiet_run.proofs.laws.Stages.{
  Round,
  votes,
  joins,
  outcomes,
  kind_of,
  reply_of,
  ended,
  prepared_in,
  group_in,
  outcome_in,
  site_in,
  coordinator_at,
  subordinate_at,
}
use Rattle.quiet_run.proofs.laws.Moves.{told_of}
use Rattle.quiet_run.proofs.laws.Sites.{rest_at}
use Rattle.quiet_run.proofs.laws.Calls.{world_with}
use Rattle.quiet_run.proofs.laws.Histories.{each_wrote, each-length, written-other, written_below}
use Rattle.quiet_run.proofs.laws.Steps.{Agreed}
use Rattle.quiet_run.proofs.laws.Whole.{round_news, rows_at, news_at, store_at, quiet_records, world_at}

-- counts over the three kinds of records

records-length : (n : ℕ) → length (quiet_records n) ≡ 3 * n
unfolding quiet_records
records-length n =
    omega (
      arith,
      length-append (each_wrote prepare_record n ++ each_wrote (group_record commit) n) (each_wrote (outcome_record commit) n),
      length-append (each_wrote prepare_record n) (each_wrote (group_record commit) n),
      each-length prepare_record n,
      each-length (group_record commit) n,
      each-length (outcome_record commit) n,
    )

-- of one code: the sum over the three kinds
written-three :
    (j code n : ℕ) →
    written_at j code (quiet_records n)
    ≡ written_at j code (each_wrote prepare_record n) + written_at j code (each_wrote (group_record commit) n)
    + written_at j code (each_wrote (outcome_record commit) n)
unfolding quiet_records
written-three j code n =
    omega (
      arith,
      at-append j code (each_wrote prepare_record n ++ each_wrote (group_record commit) n) (each_wrote (outcome_record commit) n),
      at-append j code (each_wrote prepare_record n) (each_wrote (group_record commit) n),
    )

one-prepare : (n j : ℕ) → j < n → written_at j 1 (quiet_records n) ≡ 1
unfolding record_code
one-prepare n j h =
    omega (
      arith,
      written-three j 1 n,
      written_below prepare_record 1 n j refl h,
      written-other (group_record commit) 1 n j (λ e. omega arith),
      written-other (outcome_record commit) 1 n j (λ e. omega arith),
    )

one-group : (n j : ℕ) → j < n → written_at j 2 (quiet_records n) ≡ 1
unfolding record_code
one-group n j h =
    omega (
      arith,
      written-three j 2 n,
      written-other prepare_record 2 n j (λ e. omega arith),
      written_below (group_record commit) 2 n j refl h,
      written-other (outcome_record commit) 2 n j (λ e. omega arith),
    )

one-outcome : (n j : ℕ) → j < n → written_at j 4 (quiet_records n) ≡ 1
unfolding record_code
one-outcome n j h =
    omega (
      arith,
      written-three j 4 n,
      written-other prepare_record 4 n j (λ e. omega arith),
      written-other (group_record commit) 4 n j (λ e. omega arith),
      written_below (outcome_record commit) 4 n j refl h,
    )

-- no other record
none_else : (n j code : ℕ) → (1 ≡ code → ⊥) → (2 ≡ code → ⊥) → (4 ≡ code → ⊥) → written_at j code (quiet_records n) ≡ 0
unfolding record_code
none_else n j code p g o =
    omega (
      arith,
      written-three j code n,
      written-other prepare_record code n j p,
      written-other (group_record commit) code n j g,
      written-other (outcome_record commit) code n j o,
    )

three-records : (n j : ℕ) → j < n → records_at j (quiet_records n) ≡ 3
unfolding records_at
three-records n j h =
    omega (
      arith,
      one-prepare n j h,
      one-group n j h,
      one-outcome n j h,
      none_else n j 3 (λ e. omega arith) (λ e. omega arith) (λ e. omega arith),
      none_else n j 5 (λ e. omega arith) (λ e. omega arith) (λ e. omega arith),
    )

-- the news
quiet-news : (m : ℕ) → news_at ended m ≡ 4 * m + 2 * (m * m)
unfolding news_at round_news told_of
quiet-news m = omega (arith, sum_times 1 m, sum_times m m)

module _ (n m : ℕ) (weights : List ℕ) (c : CommitQuorum) (a : AbortQuorum) (willing : ℕ) (agreed : Agreed n m weights c willing) where
  last-site : (j : ℕ) → j < n → site_of (world_at n m weights c a willing ended) j ≡ rest_at n m ended j
  unfolding site_of world_at world_with
  last-site j h = table_at (rest_at n m ended) 16 j (blank_site false) (omega arith)

  ended-log : (j : ℕ) → j < n → WholeLog (rest_at n m ended j)
  unfolding rest_at coordinator_at subordinate_at site_in prepared_in group_in outcome_in
  ended-log j h =
      by_equal j 0
      (λ z. rw z (record { prepared = refl; group = refl; outcome = refl }))
      (λ z. rw (ne_eqb j 0 z, lt-ltb j n h) (record { prepared = refl; group = refl; outcome = refl }))

  pub ends_quietly :
      (s : List ℕ) → 20480 ≤ length s → Quietly n (world_at n m weights c a willing ended) (store_at ended n m s) (quiet_records n)
  unfolding world_at world_with rows_at store_at kind_of reply_of
  ends_quietly s room =
      let others : m ≡ n - 1 = omega arith in
      record {
        log = λ j h. rw (last-site j h) (ended-log j h);
        prepares = one-prepare n;
        groups = one-group n;
        outcomes = one-outcome n;
        three-each = three-records n;
        in_all = records-length n;
        rows = refl;
        vote-rows = later outcomes (2 * n) second 0 1 2 (omega arith) (later joins n first 0 1 2 (omega arith) (sent votes 0 s (omega arith) room));
        join-rows = later outcomes (2 * n) second n 3 5 (omega arith) (sent joins n first (omega arith) (omega (arith, sent-length n votes 0 s m)));
        outcome-rows =
            sent outcomes (2 * n) second (omega arith) (omega (arith, sent-length n votes 0 s m, sent-length n joins n first m));
        news = quiet-news m ∙ ap (λ x. 4 * x + 2 * (x * x)) others;
      }
    where
      first : List ℕ
      first = sent_to n votes 0 s m

      second : List ℕ
      second = sent_to n joins n first m

      sent : (r : Round) (k : ℕ) (t : List ℕ) → k + n ≤ 1024 → 20480 ≤ length t → RoundRows n (sent_to n r k t m) k (kind_of r) (reply_of r)
      sent r k t rows bytes = round_rows n m agreed.size agreed.few r k t rows bytes

      later : (r : Round) (k : ℕ) (t : List ℕ) (i x y : ℕ) → i + n ≤ k → RoundRows n t i x y → RoundRows n (sent_to n r k t m) i x y
      later r k t i x y h are = rows_left n r k t m i x y (omega arith) h are
