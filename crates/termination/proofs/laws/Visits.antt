-- A visit: site i's command is delivered to another site, and the reply back to site i.
use Prim.Native.Nat.{ℕ, ◌-◌, ◌≤◌, ◌<◌}
use Rattle.std.specs.Prelude.{true, List, ◌≡◌}
use Rattle.std.proofs.Math.Path.{ap, sym, subst}
use Rattle.std.proofs.Common.{◌∙◌}
use native.Mathlib.Omega.{arith}
use Rattle.std.proofs.Math.ListN.{length, get_or}
use borrow.Author.Tests.{lt-ltb, ne_eqb}
use Rattle.choice.specs.laws.Cases.{by_equal}
use Rattle.bits.specs.Bits.{has_bit}
use Rattle.bits.specs.laws.Sets.{only_has, only_small}
use Rattle.row.specs.declared.Row.{Row}
use Rattle.row.specs.Rows.{get_row, row_known}
use Rattle.rules.specs.Rules.{Move, reply_row, hear, adopt}
use Rattle.world.specs.declared.World.{World}
use Rattle.world.specs.Sizes.{max_rows}
use Rattle.world.specs.Worlds.{site_of, is_willing}
use Rattle.play.specs.Run.{call_of}
use Rattle.safety.proofs.laws.News.{entry-after}
use Rattle.quiet.specs.Quiet.{row_to}
use Rattle.quiet_run.specs.Claims.{ask_of}
use Rattle.termination.specs.Schedule.{Course, give, hand_on, deliver_to, visit}
use Rattle.termination.proofs.laws.Codes.{merge-group}
use Rattle.termination.proofs.laws.Timeouts.{code_in}
use Rattle.termination.proofs.laws.Answers.{
  IsCommand,
  IsReply,
  Replies,
  deliver-replies,
  deliver-silent,
  deliver-group,
  adopts-sender,
  deliver-outcome,
  deliver_open,
  reply_open,
}
use Rattle.termination.proofs.laws.Fine.{Fine, few, RowFits, Went, code_at, entry_at}
use Rattle.termination.proofs.laws.Calls.{deliver_move, delivered}
use Rattle.termination.proofs.laws.Truths.{Open, within, own-entry, entry-small, prepared-some, none-heard}
use Rattle.termination.proofs.laws.Courses.{Going, Leg, leg-then, leg-most, goes_on, leg-silent, leg-sent}
use Rattle.termination.proofs.laws.Rows.{reply-kinded, row_known_lem, known-codes}

-- a row that is site i's command to the others
pub record Calling (o : World) (i : ℕ) (row : Row) : Type 0 where
  pub command : IsCommand row.kind
  pub sender : row.sender ≡ i
  pub known : row_known o.n row ≡ true
  pub to : (j : ℕ) → j < o.n → (j ≡ i → ⊥) → has_bit row.destinations j ≡ true
  pub outcome : row.kind ≡ 6 → 4 ≤ get_or row.codes i 0

-- WHAT A VISIT to site j leaves: but for prepare, the site is in a group or has an outcome, and site i knows it; the outcome arrives; and where
-- nobody had an outcome, nobody has one then
pub record Visited (o : World) (s : List ℕ) (i : ℕ) (t u : Course) (row : Row) (j : ℕ) : Type 0 where
  pub going : Going o s u
  pub leg : Leg o t u 2 1
  pub group : (row.kind ≡ 1 → ⊥) → 2 ≤ code_at u.world j
  pub known : (row.kind ≡ 1 → ⊥) → 2 ≤ entry_at u.world i j
  pub outcome : row.kind ≡ 6 → 4 ≤ code_at u.world j
  pub quiet : (row.kind ≡ 1 → ⊥) → Open o t.world → Open o u.world

module _ (o : World) (s : List ℕ) (i : ℕ) (lead : i < o.n) (t : Course) (going : Going o s t) (k : ℕ) (there : k < t.world.rows)
    (calls : Calling o i (get_row t.store k)) (j : ℕ) (below : j < o.n) (other : j ≡ i → ⊥) (free : t.world.rows < max_rows) where
  abbrev w : World
  w = t.world

  abbrev row : Row
  row = get_row t.store k

  fine : Fine o w t.store
  fine = going.fine

  -- THE COMMAND arrives

  known₁ : row_known w.n row ≡ true
  known₁ = ap (λ x. row_known x row) fine.sizes.same-n ∙ calls.known

  sent₁ : has_bit row.destinations j ≡ true
  sent₁ = calls.to j below other

  abbrev m₁ : Move
  m₁ = deliver_move o w t.store fine k j below there known₁ sent₁

  moved₁ : Went o w t.store j m₁ (call_of w t.store (ask_of (row_to k j)))
  moved₁ = delivered o w t.store fine k j below there known₁ sent₁ (λ _. free)

  replies : Replies j row.sender m₁
  replies = deliver-replies j w.n (is_willing w j) row (site_of w j) calls.command

  some₁ : m₁.step.row.kind ≡ 0 → ⊥
  unfolding reply_row
  some₁ e = omega (arith, e, ap (λ r. r.kind) replies.row, reply-kinded replies.kind replies.is)

  abbrev t₁ : Course
  t₁ = deliver_to j k t

  going₁ : Going o s t₁
  unfolding deliver_to
  going₁ = goes_on o s t going (row_to k j) j m₁ moved₁

  leg₁ : Leg o t t₁ 1 1
  unfolding deliver_to
  leg₁ = leg-sent o s t going (row_to k j) j m₁ moved₁ some₁

  -- THE REPLY is the next row

  long₁ : length m₁.step.site.codes ≡ 16
  unfolding deliver_to give
  long₁ = sym (ap (λ x. length x.codes) moved₁.site) ∙ going₁.fine.shaped.codes j (omega (arith, below, few o w t.store fine))

  fits₁ : RowFits m₁.step.row
  unfolding reply_row
  fits₁ =
      subst RowFits (sym replies.row)
      (record {
        sender = omega (arith, below, few o w t.store fine);
        destinations = only_small row.sender (omega (arith, calls.sender, lead, few o w t.store fine));
        long = long₁;
      })

  reply : get_row t₁.store w.rows ≡ reply_row replies.kind j i m₁.step.site
  unfolding deliver_to give
  reply = moved₁.reads some₁ fits₁ ∙ replies.row ∙ ap (λ x. reply_row replies.kind j x m₁.step.site) calls.sender

  abbrev row₂ : Row
  row₂ = get_row t₁.store w.rows

  is₂ : IsReply row₂.kind
  unfolding reply_row
  is₂ = subst IsReply (sym (ap (λ r. r.kind) reply)) replies.is

  abbrev w₁ : World
  w₁ = t₁.world

  fine₁ : Fine o w₁ t₁.store
  fine₁ = going₁.fine

  -- its codes are what site j holds, and its own is its state
  code₂ : (x : ℕ) → get_or row₂.codes x 0 ≡ entry_at w₁ j x
  unfolding reply_row deliver_to give
  code₂ x = ap (λ r. get_or r.codes x 0) reply ∙ sym (ap (λ z. get_or z.codes x 0) moved₁.site)

  there₂ : w.rows < w₁.rows
  unfolding deliver_to give
  there₂ = omega (arith, moved₁.sent some₁)

  known₂ : row_known w₁.n row₂ ≡ true
  unfolding reply_row
  known₂ =
      row_known_lem w₁.n row₂ (reply-kinded row₂.kind is₂)
      (omega (arith, ap (λ r. r.sender) reply, below, fine₁.sizes))
      (λ x h. omega (arith, code₂ x, entry-small o w₁ t₁.store fine₁ j x below (omega (arith, h, fine₁.sizes))))

  sent₂ : has_bit row₂.destinations i ≡ true
  unfolding reply_row
  sent₂ = ap (λ r. has_bit r.destinations i) reply ∙ only_has i (omega (arith, lead, few o w t.store fine))

  -- IT ARRIVES

  abbrev m₂ : Move
  m₂ = deliver_move o w₁ t₁.store fine₁ w.rows i lead there₂ known₂ sent₂

  silent₂ : m₂.step.row.kind ≡ 0
  silent₂ = deliver-silent i w₁.n (is_willing w₁ i) row₂ (site_of w₁ i) is₂

  moved₂ : Went o w₁ t₁.store i m₂ (call_of w₁ t₁.store (ask_of (row_to w.rows i)))
  moved₂ = delivered o w₁ t₁.store fine₁ w.rows i lead there₂ known₂ sent₂ (λ some. absurd (some silent₂))

  abbrev t₂ : Course
  t₂ = deliver_to i w.rows t₁

  going₂ : Going o s t₂
  unfolding deliver_to
  going₂ = goes_on o s t₁ going₁ (row_to w.rows i) i m₂ moved₂

  leg₂ : Leg o t₁ t₂ 1 0
  unfolding deliver_to
  leg₂ = leg-silent o s t₁ going₁ (row_to w.rows i) i m₂ moved₂ silent₂

  visit-is : visit i k j t ≡ t₂
  unfolding visit hand_on
  visit-is = rw (ne_eqb j i other, lt-ltb w.rows w₁.rows there₂)

  -- WHAT IT LEAVES

  stays₂ : code_at t₂.world j ≡ code_at w₁ j
  unfolding deliver_to give
  stays₂ = ap code_in (moved₂.others j other)

  here₁ : code_at w₁ j ≡ code_in m₁.step.site
  unfolding deliver_to give
  here₁ = ap code_in moved₁.site

  from_lead : row.sender < w.n
  from_lead = omega (arith, calls.sender, lead, fine.sizes)

  said : row.kind ≡ 6 → 4 ≤ get_or row.codes row.sender 0
  said e = subst (λ x. 4 ≤ get_or row.codes x 0) (sym calls.sender) (calls.outcome e)

  -- the outcome is adopted
  adopted : row.kind ≡ 6 → 4 ≤ code_in (adopt j w.n (hear j w.n row (site_of w j))).site
  unfolding row_known
  adopted e =
      adopts-sender j w.n (is_willing w j) row (site_of w j) from_lead (λ same. other (sym same ∙ calls.sender))
      (omega (arith, fine.sizes, few o w t.store fine, fine.shaped.codes j (omega (arith, below, few o w t.store fine))))
      (entry-small o w t.store fine j row.sender below (omega (arith, from_lead, fine.sizes))) (said e)
      (known-codes w.n row known₁ row.sender from_lead)

  decided : row.kind ≡ 6 → 4 ≤ code_at t₂.world j
  decided e = omega (arith, stays₂, here₁, deliver-outcome j w.n (is_willing w j) row (site_of w j) e (adopted e))

  -- a join commit says that all have prepared
  prepared : row.kind ≡ 3 → 1 ≤ code_at w j
  prepared e = prepared-some o w t.store fine j below (((fine.inv.rows k there).join e).prepared j (within o w t.store fine j below))

  grouped : (row.kind ≡ 1 → ⊥) → 2 ≤ code_at w₁ j
  grouped no_one =
      omega (
        arith,
        here₁,
        deliver-group j w.n (is_willing w j) row (site_of w j) calls.command no_one prepared adopted,
      )

  told_back : (row.kind ≡ 1 → ⊥) → 2 ≤ entry_at t₂.world i j
  unfolding deliver_to give
  told_back no_one =
      let held : ℕ = entry_at w₁ i j in
      let long : w₁.n ≤ length (site_of w₁ i).codes =
      omega (arith, fine₁.sizes, few o w t.store fine, fine₁.shaped.codes i (omega (arith, lead, few o w t.store fine))) in
      omega (
        arith,
        ap (λ z. get_or z.codes j 0) moved₂.site,
        entry-after i w₁.n (is_willing w₁ i) row₂ (site_of w₁ i) j long (omega (arith, below, fine₁.sizes)) other,
        merge-group held (get_or row₂.codes j 0) (omega (arith, code₂ j, own-entry o w₁ t₁.store fine₁ j below, grouped no_one)),
      )

  quiet₁ : (row.kind ≡ 1 → ⊥) → Open o w → Open o w₁
  unfolding deliver_to give
  quiet₁ no_one none =
      record {
        none = λ x h.
            by_equal x j
            (λ e. subst (λ y. code_at w₁ y < 4) (sym e)
            (omega (
              arith,
              here₁,
              deliver_open j w.n (is_willing w j) row (site_of w j) (none-heard o w t.store fine none k j there below) (none.none j below)
                  calls.command no_one,
            )))
            (λ e. omega (arith, ap code_in (moved₁.others x e), none.none x h));
      }

  quiet₂ : Open o w₁ → Open o t₂.world
  unfolding deliver_to give
  quiet₂ none =
      record {
        none = λ x h.
            by_equal x i
            (λ e. subst (λ y. code_at t₂.world y < 4) (sym e)
            (omega (
              arith,
              ap code_in moved₂.site,
              reply_open i w₁.n (is_willing w₁ i) row₂ (site_of w₁ i) (none-heard o w₁ t₁.store fine₁ none w.rows i there₂ lead)
                  (none.none i lead) is₂,
            )))
            (λ e. omega (arith, ap code_in (moved₂.others x e), none.none x h));
      }

  pub visited : Visited o s i t (visit i k j t) row j
  visited =
      subst (λ u. Visited o s i t u row j) (sym visit-is)
      (record {
        going = going₂;
        leg = leg-most t t₂ 2 1 (omega arith) (omega arith) (leg-then t t₁ t₂ leg₁ leg₂);
        group = λ no_one. omega (arith, stays₂, grouped no_one);
        known = told_back;
        outcome = decided;
        quiet = λ no_one none. quiet₂ (quiet₁ no_one none);
      })
