-- A step by an order is its turn: refused, or its move taken; and what is new in the log is what the move wrote.
use Rattle.std.specs.Prelude.{ℕ, List, Result, Ok, Err, true, ◌≡◌, refl, ltb, eqb}
use Rattle.std.proofs.Common.{sym, ap, ◌∙◌}
use Rattle.choice.specs.Choice.{pick, both}
use Rattle.choice.specs.laws.Cases.{by_test}
use Rattle.choice.specs.laws.ChoiceLaws.{both-second, pick_ind}
use Rattle.refusals.specs.declared.Reason.{Reason}
use Rattle.refusals.specs.Refusals.{number_of}
use Rattle.bits.specs.Bits.{has_bit}
use Rattle.row.specs.declared.Row.{Row}
use Rattle.row.specs.Rows.{row_known}
use Rattle.site.specs.declared.Site.{Site}
use Rattle.site.specs.State.{state_of, is_active}
use Rattle.rules.specs.Rules.{Stepped, Move, start, timeout, deliver, crash, recover}
use Rattle.participant.specs.Turns.{start_turn, deliver_turn, timeout_turn, crash_turn, recover_turn, moved}
use Rattle.member.specs.declared.Member.{Member}
use Rattle.member.specs.declared.Order.{Order}
use Rattle.member.specs.declared.Order.TheVariants as Order·
use Rattle.member.specs.declared.Logged.{Logged}
use Rattle.member.specs.Orders.{row_in}
use Rattle.member.specs.Steps.{Answer, Handed, refuse, take, start_step, deliver_step, timeout_step, crash_step, recover_step, step_by, nothing, logged, taken_of}
use Rattle.member.specs.Claims.{new_log, LogGrows}
use Rattle.member.specs.laws.Steady.{is_active_lem}
use Rattle.member.proofs.Logs.{grows_start, grows-timeout, grows-deliver, grows-crash, grows-recover}
use Rattle.member_step.specs.Turns.{turn_by}

-- a turn taken
taking : Site → Result Move Reason → Answer
taking s (Ok m) = take m
taking s (Err reason) = refuse (number_of reason) s

-- a turn whose log grows by the records of its move
Grown : Site → Result Move Reason → Type 0
Grown s (Ok m) = LogGrows s m.step.site (logged m.records)
Grown s (Err reason) = Unit

module _ (m : Member) (s : Site) where
  start_same : start_step m s ≡ taking s (start_turn m.own m.n m.willing s)
  unfolding start_step start_turn taking
  start_same =
      by_test s.up
      (λ u. by_test (both (eqb m.own 0) (is_active (state_of s))) (λ a. rw (a, u)) (λ a. rw (a, u)))
      (λ u. rw u)

  deliver_same : (row : Row) → deliver_step row m s ≡ taking s (deliver_turn m.own m.n m.willing row s)
  unfolding deliver_step deliver_turn taking
  deliver_same row =
      by_test (row_known m.n row)
      (λ k. by_test (has_bit row.destinations m.own) (λ b. by_test s.up (λ u. rw (k, b, u)) (λ u. rw (k, b, u))) (λ b. rw (k, b)))
      (λ k. rw k)

  turn_same : (order : Order) (bytes : List ℕ) → step_by order bytes m s ≡ taking s (turn_by order bytes m s)
  unfolding step_by turn_by timeout_step crash_step recover_step timeout_turn crash_turn recover_turn taking
  turn_same Order·.Start bytes = start_same
  turn_same Order·.Deliver bytes = deliver_same (row_in bytes)
  turn_same Order·.Timeout bytes = by_test s.up (λ u. rw u) (λ u. rw u)
  turn_same Order·.Crash bytes = by_test s.up (λ u. rw u) (λ u. rw u)
  turn_same Order·.Recover bytes = by_test s.up (λ u. rw u) (λ u. rw u)

  turn_grown : (order : Order) (bytes : List ℕ) → Grown s (turn_by order bytes m s)
  unfolding turn_by start_turn deliver_turn timeout_turn crash_turn recover_turn Grown
  turn_grown Order·.Start bytes =
      pick_ind (Grown s) s.up _ _
      (λ _. pick_ind (Grown s) (both (eqb m.own 0) (is_active (state_of s))) _ _
      (λ a. grows_start m.n m.willing s (is_active_lem (state_of s) (both-second (eqb m.own 0) (is_active (state_of s)) a)))
      (λ _. tt))
      (λ _. tt)
  turn_grown Order·.Deliver bytes =
      pick_ind (Grown s) (row_known m.n (row_in bytes)) _ _
      (λ k. pick_ind (Grown s) (has_bit (row_in bytes).destinations m.own) _ _
      (λ _. pick_ind (Grown s) s.up _ _ (λ _. grows-deliver m.own m.n m.willing (row_in bytes) s k) (λ _. tt))
      (λ _. tt))
      (λ _. tt)
  turn_grown Order·.Timeout bytes =
      pick_ind (Grown s) s.up _ _ (λ _. grows-timeout m.own m.n m.weights m.commit m.abort s) (λ _. tt)
  turn_grown Order·.Crash bytes = pick_ind (Grown s) s.up _ _ (λ _. grows-crash m.own s) (λ _. tt)
  turn_grown Order·.Recover bytes = pick_ind (Grown s) s.up _ _ (λ _. tt) (λ _. grows-recover m.own s)

  -- a turn that is refused
  pub turn_refused :
      (order : Order) (bytes : List ℕ) (reason : Reason) → moved (turn_by order bytes m s) ≡ Err reason →
      taken_of (refuse (number_of reason) s) ≡ taken_of (step_by order bytes m s)
  unfolding taking
  turn_refused order bytes reason e = go (turn_by order bytes m s) e (turn_same order bytes, turn_grown order bytes)
    where
      go : (x : Result Move Reason) → moved x ≡ Err reason → (step_by order bytes m s ≡ taking s x) × Grown s x →
          taken_of (refuse (number_of reason) s) ≡ taken_of (step_by order bytes m s)
      go (Ok v) e t = cc
      go (Err r) e t = rw t.0 (ap (λ x. taken_of (refuse (number_of x) s)) cc)

  -- a turn that is taken: what the code hands back of its step
  pub turn_handed :
      (order : Order) (bytes : List ℕ) (step : Stepped) → moved (turn_by order bytes m s) ≡ Ok step →
      record { number = 0; site = step.site; row = step.row; news = step.news; logged = new_log s step.site }
      ≡ taken_of (step_by order bytes m s)
  unfolding taking Grown taken_of take
  turn_handed order bytes step e = go (turn_by order bytes m s) e (turn_same order bytes, turn_grown order bytes)
    where
      go : (x : Result Move Reason) → moved x ≡ Ok step → (step_by order bytes m s ≡ taking s x) × Grown s x →
          record { number = 0; site = step.site; row = step.row; news = step.news; logged = new_log s step.site }
          ≡ taken_of (step_by order bytes m s)
      go (Ok v) e t =
          let same : step ≡ v.step = cc in
          rw (t.0, same) (ap (λ l. record { number = 0; site = v.step.site; row = v.step.row; news = v.step.news; logged = l }) (sym t.1.new))
      go (Err r) e t = cc
