-- A view of one step: it is a refusal, or a rule's move with what the refusals have made sure of.
use Rattle.std.specs.Prelude.{ℕ, ◌<◌, true, List, ◌≡◌, refl, ltb, eqb, length, get_or}
use Rattle.std.proofs.Common.{arith, ltb-true, eqb-true}
use Rattle.choice.specs.Choice.{pick, both}
use Rattle.choice.specs.laws.ChoiceLaws.{pick_ind, both_first, both-second}
use Rattle.bits.specs.Bits.{has_bit}
use Rattle.row.specs.declared.Row.{Row}
use Rattle.row.specs.Rows.{row_known}
use Rattle.site.specs.declared.Site.{Site}
use Rattle.site.specs.State.{state_of, is_active}
use Rattle.rules.specs.Rules.{Move, start, timeout, deliver, crash, recover}
use Rattle.member.specs.declared.Member.{Member}
use Rattle.member.specs.declared.Order.{Order}
use Rattle.member.specs.declared.Order.TheVariants as Order·
use Rattle.refusals.specs.Refusals.{number_of}
use Rattle.refusals.specs.laws.RefusalLaws.{number-some}
use Rattle.member.specs.Hearings.{Heard}
use Rattle.std.specs.Prelude.{Ok, Err}
use Rattle.member.specs.Orders.{refused_with, row_in, read_row, order_of, read_order}
use Rattle.member.specs.Steps.{
  Answer,
  refuse,
  take,
  start_step,
  timeout_step,
  crash_step,
  recover_step,
  deliver_step,
  step_by,
  step_heard,
  valid_member,
  site_step,
}

-- the move of a member by a rule
pub data Rule (m : Member) (s : Site) (bytes : List ℕ) : Move → Type 0 where
  by-start : m.own ≡ 0 → is_active (state_of s) ≡ true → Rule m s bytes (start m.n m.willing s)
  by-timeout : Rule m s bytes (timeout m.own m.n m.weights m.commit m.abort s)
  by-deliver :
      read_order bytes ≡ Ok Order·.Deliver → row_known m.n (row_in bytes) ≡ true →
      Rule m s bytes (deliver m.own m.n m.willing (row_in bytes) s)
  by-crash : Rule m s bytes (crash m.own s)
  by-recover : Rule m s bytes (recover m.own s)

pub data Seen (m : Member) (s : Site) (bytes : List ℕ) : Answer → Type 0 where
  as_refused : (number : ℕ) → (number ≡ 0 → ⊥) → Seen m s bytes (refuse number s)
  as_taken : (v : Move) → valid_member m s ≡ true → m.own < m.n → Rule m s bytes v → Seen m s bytes (take v)

module _ (m : Member) (s : Site) (bytes : List ℕ) (valid : valid_member m s ≡ true) where
  seen_start : m.own < m.n → Seen m s bytes (start_step m s)
  unfolding start_step
  seen_start below =
      pick_ind (Seen m s bytes) s.up
      (pick (both (eqb m.own 0) (is_active (state_of s))) (take (start m.n m.willing s)) (refuse 14 s)) (refuse 12 s)
      (λ _. pick_ind (Seen m s bytes) (both (eqb m.own 0) (is_active (state_of s))) (take (start m.n m.willing s)) (refuse 14 s)
      (λ e. as_taken (start m.n m.willing s) valid below
      (by-start (eqb-true m.own 0 (both_first (eqb m.own 0) (is_active (state_of s)) e))
      (both-second (eqb m.own 0) (is_active (state_of s)) e)))
      (λ _. as_refused 14 (omega arith)))
      (λ _. as_refused 12 (omega arith))

  seen-timeout : m.own < m.n → Seen m s bytes (timeout_step m s)
  unfolding timeout_step
  seen-timeout below =
      pick_ind (Seen m s bytes) s.up (take (timeout m.own m.n m.weights m.commit m.abort s)) (refuse 12 s)
      (λ _. as_taken (timeout m.own m.n m.weights m.commit m.abort s) valid below by-timeout)
      (λ _. as_refused 12 (omega arith))

  seen-crash : m.own < m.n → Seen m s bytes (crash_step m s)
  unfolding crash_step
  seen-crash below =
      pick_ind (Seen m s bytes) s.up (take (crash m.own s)) (refuse 12 s)
      (λ _. as_taken (crash m.own s) valid below by-crash) (λ _. as_refused 12 (omega arith))

  seen-recover : m.own < m.n → Seen m s bytes (recover_step m s)
  unfolding recover_step
  seen-recover below =
      pick_ind (Seen m s bytes) s.up (refuse 13 s) (take (recover m.own s))
      (λ _. as_refused 13 (omega arith)) (λ _. as_taken (recover m.own s) valid below by-recover)

  seen-deliver : read_order bytes ≡ Ok Order·.Deliver → m.own < m.n → Seen m s bytes (deliver_step (row_in bytes) m s)
  unfolding deliver_step
  seen-deliver e below =
      let row : Row = row_in bytes in
      let v : Move = deliver m.own m.n m.willing row s in
      pick_ind (Seen m s bytes) (row_known m.n row)
      (pick (has_bit row.destinations m.own) (pick s.up (take v) (refuse 12 s)) (refuse 11 s)) (refuse 10 s)
      (λ known. pick_ind (Seen m s bytes) (has_bit row.destinations m.own) (pick s.up (take v) (refuse 12 s)) (refuse 11 s)
      (λ _. pick_ind (Seen m s bytes) s.up (take v) (refuse 12 s)
      (λ _. as_taken v valid below (by-deliver e known)) (λ _. as_refused 12 (omega arith)))
      (λ _. as_refused 11 (omega arith)))
      (λ _. as_refused 10 (omega arith))

  seen_by : (o : Order) → read_order bytes ≡ Ok o → m.own < m.n → Seen m s bytes (step_by o bytes m s)
  unfolding step_by
  seen_by Order·.Start e below = seen_start below
  seen_by Order·.Deliver e below = seen-deliver e below
  seen_by Order·.Timeout e below = seen-timeout below
  seen_by Order·.Crash e below = seen-crash below
  seen_by Order·.Recover e below = seen-recover below

  seen-heard : (h : Heard) → read_order bytes ≡ h → Seen m s bytes (step_heard h bytes m s)
  unfolding step_heard
  seen-heard (Err reason) e = as_refused (number_of reason) (number-some reason)
  seen-heard (Ok o) e =
      pick_ind (Seen m s bytes) (ltb m.own m.n) (step_by o bytes m s) (refuse 8 s)
      (λ l. seen_by o e (ltb-true m.own m.n l)) (λ _. as_refused 8 (omega arith))

-- every step is seen so
pub view : (m : Member) (s : Site) (bytes : List ℕ) → Seen m s bytes (site_step m s bytes)
unfolding site_step
view m s bytes =
    pick_ind (Seen m s bytes) (valid_member m s) (step_heard (read_order bytes) bytes m s) (refuse 17 s)
    (λ valid. seen-heard m s bytes valid (read_order bytes) refl) (λ _. as_refused 17 (omega arith))
