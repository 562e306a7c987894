-- What is shown of every refusal and of the five rules' moves is shown of every step.
use Rattle.std.specs.Prelude.{ℕ, ◌<◌, true, List, ◌≡◌}
use Rattle.row.specs.declared.Row.{Row}
use Rattle.row.specs.Rows.{row_known}
use Rattle.site.specs.declared.State.TheVariants as State·
use Rattle.site.specs.declared.Site.{Site}
use Rattle.site.specs.State.{state_of}
use Rattle.rules.specs.Rules.{Move, start, timeout, deliver, crash, recover}
use Rattle.member.specs.declared.Member.{Member}
use Rattle.member.specs.Orders.{row_in}
use Rattle.member.specs.Steps.{Answer, refuse, take, valid_member, site_step}
use Rattle.member.specs.laws.Steady.{is_active_lem}
use Rattle.member.specs.laws.View.{Rule, by-start, by-timeout, by-deliver, by-crash, by-recover, Seen, as_refused, as_taken, view}

-- what was asked before a rule: 17 and 8
pub record Asked (m : Member) (s : Site) : Type 0 where
  pub valid : valid_member m s ≡ true
  pub below : m.own < m.n

-- what is to be shown of the answers: of every refusal, and of every move with what was asked before it
pub record Answers (m : Member) (s : Site) (P : Answer → Type 0) : Type 0 where
  pub refusals : (number : ℕ) → (number ≡ 0 → ⊥) → P (refuse number s)
  pub starts : Asked m s → m.own ≡ 0 → state_of s ≡ State·.Active → P (take (start m.n m.willing s))
  pub delivers : Asked m s → (row : Row) → row_known m.n row ≡ true → P (take (deliver m.own m.n m.willing row s))
  pub timeouts : Asked m s → P (take (timeout m.own m.n m.weights m.commit m.abort s))
  pub crashes : Asked m s → P (take (crash m.own s))
  pub recovers : Asked m s → P (take (recover m.own s))

module _ (m : Member) (s : Site) (P : Answer → Type 0) (each : Answers m s P) (bytes : List ℕ) where
  rule_ind : (v : Move) → Asked m s → Rule m s bytes v → P (take v)
  rule_ind v asked (by-start zero active) = each.starts asked zero (is_active_lem (state_of s) active)
  rule_ind v asked by-timeout = each.timeouts asked
  rule_ind v asked (by-deliver e known) = each.delivers asked (row_in bytes) known
  rule_ind v asked by-crash = each.crashes asked
  rule_ind v asked by-recover = each.recovers asked

  seen_ind : (a : Answer) → Seen m s bytes a → P a
  seen_ind a (as_refused number some) = each.refusals number some
  seen_ind a (as_taken v valid below rule) = rule_ind v (record { valid = valid; below = below }) rule

-- every step
pub step_ind : (m : Member) (s : Site) (P : Answer → Type 0) → Answers m s P → (bytes : List ℕ) → P (site_step m s bytes)
step_ind m s P each bytes = seen_ind m s P each bytes (site_step m s bytes) (view m s bytes)
