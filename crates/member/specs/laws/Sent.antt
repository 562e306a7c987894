-- The row that a rule sends: its own number, sixteen bits of destinations, and the codes of the site after the step. Its bytes are its delivery.
use Rattle.std.specs.Prelude.{ℕ, ◌≤◌, ◌<◌, Bool, ◌≡◌, refl, ltb, eqb, length}
use Rattle.std.proofs.Math.Bool.{true}
use mathlib.Core.List.{List, [], ◌∷◌}
use Rattle.std.proofs.Common.{sym, ap, subst, ◌∙◌, arith, lt-ltb, le-ltb}
use Rattle.choice.specs.Choice.{pick, either}
use Rattle.choice.specs.laws.ChoiceLaws.{pick-on, pick_off, pick_ind}
use Rattle.vector.specs.Vector.{count}
use Rattle.bits.specs.laws.Sets.{other-small, only_small}
use Rattle.row.specs.declared.Row.{Row}
use Rattle.row.specs.Rows.{no_row, row_place, put_row_at, put_row, get_row}
use Rattle.row.specs.laws.KnownLaws.{known-sender}
use Rattle.row.specs.laws.RowLaws.{put_row_at-length, row_at_behind, get_row-same}
use Rattle.site.specs.declared.State.{State}
use Rattle.site.specs.declared.State.TheVariants as State·
use Rattle.site.specs.declared.Site.{Site}
use Rattle.site.specs.declared.CommitQuorum.{CommitQuorum}
use Rattle.site.specs.declared.AbortQuorum.{AbortQuorum}
use Rattle.site.specs.State.{state_of, is_active, commit_reached, abort_reached}
use Rattle.site.specs.Fields.{with_up, with_coordinator}
use Rattle.site.specs.Records.{
  Written,
  wrote,
  commit,
  abort,
  prepare_record,
  group_record,
  outcome_record,
  write_prepare,
  join_group,
  write_outcome,
}
use Rattle.rules.specs.Rules.{
  Move,
  Noted,
  silent,
  command_row,
  commanding,
  reply_row,
  replying,
  start,
  take_over,
  choose_group,
  decide_commit,
  decide_abort,
  timeout_in,
  timeout,
  hear,
  adopt,
  vote_in,
  join_commit_in,
  join_abort_in,
  after,
  answer,
  bringing,
  after_hearing,
  deliver,
  crash,
  restart,
  recover,
}
use Rattle.member.specs.declared.Member.{Member}
use Rattle.member.specs.declared.Order.TheVariants as Order·
use Rattle.std.specs.Prelude.{Ok}
use Rattle.refusals.specs.declared.Reason.TheVariants as Reason·
use Rattle.member.specs.Orders.{refused_with, row_in, read_row, order_of, read_order}
use Rattle.member.specs.Steps.{refuse, take}
use Rattle.member.specs.Claims.{Long, Arrives, RowsArrive}
use Rattle.member.specs.laws.Steady.{Moved, keeps_start, keeps_timeout, keeps_deliver, keeps_crash, keeps_recover}
use Rattle.member.specs.laws.Long.{long_steady}
use Rattle.member.specs.laws.Answers.{Asked, step_ind}
use Rattle.member.specs.laws.StepLaws.{valid-few}

-- what is sent, where a row is sent
pub record Sends (own : ℕ) (m : Move) : Type 0 where
  pub sender : (m.step.row.kind ≡ 0 → ⊥) → m.step.row.sender ≡ own
  pub destinations : (m.step.row.kind ≡ 0 → ⊥) → m.step.row.destinations < 65536
  pub codes : (m.step.row.kind ≡ 0 → ⊥) → m.step.row.codes ≡ m.step.site.codes

sends-silent : (own : ℕ) (s : Site) (records : List Written) → Sends own (silent s records)
unfolding silent no_row
sends-silent own s records =
    record { sender = λ some. absurd (some refl); destinations = λ some. absurd (some refl); codes = λ some. absurd (some refl) }

sends-command : (kind own n : ℕ) (s : Site) (records : List Written) → n ≤ 16 → Sends own (commanding kind own n s records)
unfolding commanding command_row
sends-command kind own n s records few =
    record { sender = λ _. refl; destinations = λ _. other-small n own few; codes = λ _. refl }

sends-reply : (kind own to : ℕ) (m : Noted) → to < 16 → Sends own (replying kind own to m)
unfolding replying reply_row
sends-reply kind own to m few =
    record { sender = λ _. refl; destinations = λ _. only_small to few; codes = λ _. refl }

pub sends-start : (n : ℕ) (willing : Bool) (s : Site) → n ≤ 16 → Sends 0 (start n willing s)
unfolding start
sends-start n willing s few =
    pick_ind (Sends 0) willing (commanding 1 0 n (with_coordinator true (write_prepare 0 s)) (wrote 0 prepare_record ∷ []))
    (commanding 6 0 n (with_coordinator true (write_outcome abort 0 s)) (wrote 0 (outcome_record abort) ∷ []))
    (λ _. sends-command 1 0 n (with_coordinator true (write_prepare 0 s)) (wrote 0 prepare_record ∷ []) few)
    (λ _. sends-command 6 0 n (with_coordinator true (write_outcome abort 0 s)) (wrote 0 (outcome_record abort) ∷ []) few)

pub sends-crash : (own : ℕ) (s : Site) → Sends own (crash own s)
unfolding crash
sends-crash own s = sends-silent own _ []

pub sends-recover : (own : ℕ) (s : Site) → Sends own (recover own s)
unfolding recover restart
sends-recover own s =
    pick_ind (Sends own) (is_active (state_of s)) (restart own s) (silent (with_up true s) [])
    (λ _. sends-silent own _ _) (λ _. sends-silent own (with_up true s) [])

module _ (own n : ℕ) (few : n ≤ 16) where
  sends-take_over : (kind : ℕ) (s : Site) → Sends own (take_over kind own n s)
  unfolding take_over
  sends-take_over kind s = sends-command kind own n (with_coordinator true s) [] few

  sends-choose_group : (s : Site) → Sends own (choose_group own n s)
  unfolding choose_group
  sends-choose_group s =
      pick_ind (Sends own) (either (eqb (count n s.codes 1) n) (ltb 0 (count n s.codes 2)))
      (commanding 3 own n (join_group commit own s) (wrote own (group_record commit) ∷ []))
      (commanding 4 own n (join_group abort own s) (wrote own (group_record abort) ∷ []))
      (λ _. sends-command 3 own n _ _ few) (λ _. sends-command 4 own n _ _ few)

  sends-decide_commit : (weights : List ℕ) (c : CommitQuorum) (s : Site) → Sends own (decide_commit own n weights c s)
  unfolding decide_commit
  sends-decide_commit weights c s =
      pick_ind (Sends own) (commit_reached c weights n s.codes)
      (commanding 6 own n (write_outcome commit own s) (wrote own (outcome_record commit) ∷ [])) (commanding 3 own n s [])
      (λ _. sends-command 6 own n _ _ few) (λ _. sends-command 3 own n s [] few)

  sends-decide_abort : (weights : List ℕ) (a : AbortQuorum) (s : Site) → Sends own (decide_abort own n weights a s)
  unfolding decide_abort
  sends-decide_abort weights a s =
      pick_ind (Sends own) (abort_reached a weights n s.codes)
      (commanding 6 own n (write_outcome abort own s) (wrote own (outcome_record abort) ∷ [])) (commanding 4 own n s [])
      (λ _. sends-command 6 own n _ _ few) (λ _. sends-command 4 own n s [] few)

  sends-timeout_in :
      (st : State) (weights : List ℕ) (c : CommitQuorum) (a : AbortQuorum) (s : Site) → Sends own (timeout_in st own n weights c a s)
  unfolding timeout_in
  sends-timeout_in State·.Active weights c a s = sends-silent own _ _
  sends-timeout_in State·.Prepared weights c a s =
      pick_ind (Sends own) s.coordinator (choose_group own n s) (take_over 1 own n s)
      (λ _. sends-choose_group s) (λ _. sends-take_over 1 s)
  sends-timeout_in State·.CommitGroup weights c a s =
      pick_ind (Sends own) s.coordinator (decide_commit own n weights c s) (take_over 3 own n s)
      (λ _. sends-decide_commit weights c s) (λ _. sends-take_over 3 s)
  sends-timeout_in State·.AbortGroup weights c a s =
      pick_ind (Sends own) s.coordinator (decide_abort own n weights a s) (take_over 4 own n s)
      (λ _. sends-decide_abort weights a s) (λ _. sends-take_over 4 s)
  sends-timeout_in State·.Committed weights c a s = sends-take_over 6 s
  sends-timeout_in State·.Aborted weights c a s = sends-take_over 6 s

  pub sends-timeout :
      (weights : List ℕ) (c : CommitQuorum) (a : AbortQuorum) (s : Site) → Sends own (timeout own n weights c a s)
  unfolding timeout
  sends-timeout weights c a s = sends-timeout_in (state_of s) weights c a s

-- a reply is to one of sixteen sites
sends-answer : (kind own to : ℕ) (willing : Bool) (m : Noted) → to < 16 → Sends own (answer kind own to willing m)
unfolding answer
sends-answer kind own to willing m few =
    let vote : Move = replying 2 own to (after m.records (vote_in (state_of m.site) own willing m.site)) in
    let join_c : Move = replying 5 own to (after m.records (join_commit_in (state_of m.site) own m.site)) in
    let join_a : Move = replying 5 own to (after m.records (join_abort_in (state_of m.site) own m.site)) in
    let quiet : Move = silent m.site m.records in
    pick_ind (Sends own) (eqb kind 1) vote
    (pick (eqb kind 3) join_c (pick (eqb kind 4) join_a (pick (eqb kind 6) (replying 7 own to m) quiet)))
    (λ _. sends-reply 2 own to _ few) λ _.
    pick_ind (Sends own) (eqb kind 3) join_c (pick (eqb kind 4) join_a (pick (eqb kind 6) (replying 7 own to m) quiet))
    (λ _. sends-reply 5 own to _ few) λ _.
    pick_ind (Sends own) (eqb kind 4) join_a (pick (eqb kind 6) (replying 7 own to m) quiet)
    (λ _. sends-reply 5 own to _ few) λ _.
    pick_ind (Sends own) (eqb kind 6) (replying 7 own to m) quiet
    (λ _. sends-reply 7 own to m few) (λ _. sends-silent own m.site m.records)

pub sends-deliver :
    (own n : ℕ) (willing : Bool) (row : Row) (s : Site) → n ≤ 16 → row.sender < n → Sends own (deliver own n willing row s)
unfolding deliver after_hearing bringing
sends-deliver own n willing row s few from =
    let q : Sends own (answer row.kind own row.sender willing (adopt own n (hear own n row s))) =
    sends-answer row.kind own row.sender willing (adopt own n (hear own n row s)) (omega arith) in
    record { sender = q.sender; destinations = q.destinations; codes = q.codes }

-- twenty bytes after a 2, and what follows them, are a delivery
pub bytes-deliver : (l : List ℕ) → 20 ≤ length l → read_order (2 ∷ l) ≡ Ok Order·.Deliver
unfolding read_order order_of read_row
bytes-deliver l e =
    pick-on (ltb 0 (length (2 ∷ l))) (order_of 2 (2 ∷ l)) (refused_with Reason·.NoCommand) (lt-ltb 0 (length (2 ∷ l)) (omega arith))
    ∙ pick_off (ltb (length (2 ∷ l)) 21) (refused_with Reason·.OperandsCut) (Ok Order·.Deliver) (le-ltb (length (2 ∷ l)) 21 (omega arith))

-- a row whose numbers fit their bytes, written and read
row_back :
    (bytes : List ℕ) (r : Row) → length bytes ≡ 20 → r.sender < 256 → r.destinations < 65536 → length r.codes ≡ 16 →
    row_in (2 ∷ put_row_at bytes 0 r) ≡ r
unfolding row_in row_place put_row get_row
row_back bytes r e s d l =
    row_at_behind 2 (put_row_at bytes 0 r) 0 ∙ get_row-same bytes 0 r (unfold row_place in omega arith) s d l

arrives :
    (m : Member) (s : Site) (v : Move) → Asked m s → Sends m.own v → Long v.step.site →
    ((take v).row.kind ≡ 0 → ⊥) → Arrives m (take v)
unfolding take
arrives m s v asked sends long some =
    let few : m.n ≤ 16 = valid-few m s asked.valid in
    record {
      from = sends.sender some;
      delivers = λ bytes e. bytes-deliver (put_row_at bytes 0 v.step.row) (omega (arith, put_row_at-length bytes 0 v.step.row));
      same = λ bytes e. row_back bytes v.step.row e (omega (arith, sends.sender some, asked.below)) (sends.destinations some)
          (ap length (sends.codes some) ∙ long.codes);
    }

pub rows_arrive : RowsArrive
unfolding refuse take no_row Moved
rows_arrive m s bytes long =
    let own = m.own in
    let n = m.n in
    step_ind m s (λ a. (a.row.kind ≡ 0 → ⊥) → Arrives m a)
    (record {
      refusals = λ number refused some. absurd (some refl);
      starts = λ asked zero active.
          arrives m s _ asked
          (subst (λ i. Sends i (start n m.willing s)) (sym zero) (sends-start n m.willing s (valid-few m s asked.valid)))
          (keeps_start n (λ t H. Long t) (long_steady 0 n) m.willing s active long);
      delivers = λ asked row known.
          arrives m s _ asked (sends-deliver own n m.willing row s (valid-few m s asked.valid) (known-sender n row known))
          (keeps_deliver own n (λ t H. Long t) (long_steady own n) m.willing row s known long);
      timeouts = λ asked.
          arrives m s _ asked (sends-timeout own n (valid-few m s asked.valid) m.weights m.commit m.abort s)
          (keeps_timeout own n (λ t H. Long t) (long_steady own n) m.weights m.commit m.abort s long);
      crashes = λ asked. arrives m s _ asked (sends-crash own s) (keeps_crash own n (λ t H. Long t) (long_steady own n) s long);
      recovers = λ asked. arrives m s _ asked (sends-recover own s) (keeps_recover own n (λ t H. Long t) (long_steady own n) s long);
    })
    bytes
