-- What an accepted delivery has made sure of, and what it leaves; what one that is refused for its news tells.
use Rattle.std.specs.Prelude.{ℕ, ◌+◌, ◌<◌, Bool, true, false, List, ◌≡◌, refl, ltb, leb, eqb, length}
use Rattle.std.proofs.Common.{arith}
use borrow.Author.Tests.{ltb-true, leb-false, eqb-false}
use Rattle.choice.specs.Choice.{pick}
use Rattle.choice.specs.laws.ChoiceLaws.{pick_ind}
use Rattle.bits.specs.Bits.{has_bit}
use Rattle.row.specs.declared.Row.{Row}
use Rattle.row.specs.Rows.{get_row, row_known}
use Rattle.rules.specs.Rules.{Move, deliver}
use Rattle.command.specs.declared.Command.TheVariants as Command·
use Rattle.command.specs.declared.Delivery.{Delivery}
use Rattle.command.specs.Commands.{read_command, found}
use Rattle.world.specs.declared.World.{World}
use Rattle.world.specs.Sizes.{max_rows, max_news, store_bytes}
use Rattle.world.specs.Worlds.{site_of, is_willing, with_site, with_rows, with_news}
use Rattle.world.specs.Valid.{valid_world}
use Rattle.play.specs.Calls.{Call, refuse, put_back, enter_silent, enter_row, within_news, enter}
use Rattle.play.specs.Commands.{deliver_row, deliver_call, perform, perform_read, play_command, one_command}

-- a move of site i entered: the call's news and that site are the move's
pub record Entered (w : World) (i : ℕ) (m : Move) (c : Call) : Type 0 where
  pub news : c.news ≡ m.step.news
  pub site : site_of c.world i ≡ site_of (with_site i m.step.site w) i

enter-entered :
    (w : World) (store : List ℕ) (at next i : ℕ) (m : Move) → (enter w store at next i m).number ≡ 0 →
    Entered w i m (enter w store at next i m)
unfolding enter within_news enter_silent enter_row put_back refuse with_site with_rows with_news site_of
enter-entered w store at next i m =
    pick_ind If (eqb m.step.row.kind 0) (within_news w store at m silently)
    (pick (ltb w.rows max_rows) (within_news w store at m added) (refuse 15 w store at))
    (λ _. pick_ind If (leb (w.news + m.step.news) max_news) silently (refuse 17 w store at)
    (λ _ _. record { news = refl; site = refl }) (λ _ e. absurd (omega arith)))
    (λ _. pick_ind If (ltb w.rows max_rows) (within_news w store at m added) (refuse 15 w store at)
    (λ _. pick_ind If (leb (w.news + m.step.news) max_news) added (refuse 17 w store at)
    (λ _ _. record { news = refl; site = refl }) (λ _ e. absurd (omega arith)))
    (λ _ e. absurd (omega arith)))
  where
    If : Call → Type 0
    If c = c.number ≡ 0 → Entered w i m c

    silently : Call
    silently = enter_silent w store next i m

    added : Call
    added = enter_row w store next i m

-- the move of a delivery of row k to site i
abbrev pub delivery_of : World → List ℕ → ℕ → ℕ → Move
delivery_of w store k i = deliver i w.n (is_willing w i) (get_row store k) (site_of w i)

pub record Delivering (w : World) (store : List ℕ) (k i : ℕ) (c : Call) : Type 0 where
  pub valid : valid_world w ≡ true
  pub site-below : i < w.n
  pub row_below : k < w.rows
  pub entered : Entered w i (delivery_of w store k i) c

-- none of 8 to 12, 15 and 17
module _ (w : World) (store : List ℕ) (valid : valid_world w ≡ true) (at next k i : ℕ) where
  Accepted : Call → Type 0
  Accepted c = c.number ≡ 0 → Delivering w store k i c

  row-delivering : i < w.n → k < w.rows → Accepted (deliver_row w store at next (get_row store k) i)
  unfolding Accepted deliver_row refuse
  row-delivering below there =
      let row : Row = get_row store k in
      let entering : Call = enter w store at next i (delivery_of w store k i) in
      pick_ind Accepted (row_known w.n row)
      (pick (has_bit row.destinations i) (pick (site_of w i).up entering (refuse 12 w store at)) (refuse 11 w store at))
      (refuse 10 w store at)
      (λ _. pick_ind Accepted (has_bit row.destinations i) (pick (site_of w i).up entering (refuse 12 w store at))
      (refuse 11 w store at)
      (λ _. pick_ind Accepted (site_of w i).up entering (refuse 12 w store at)
      (λ _ e. record {
        valid = valid;
        site-below = below;
        row_below = there;
        entered = enter-entered w store at next i (delivery_of w store k i) e;
      })
      (λ _ e. absurd (omega arith)))
      (λ _ e. absurd (omega arith)))
      (λ _ e. absurd (omega arith))

  call-delivering : Accepted (deliver_call w store at next k i)
  unfolding Accepted deliver_call refuse
  call-delivering =
      pick_ind Accepted (ltb i w.n)
      (pick (ltb k w.rows) (deliver_row w store at next (get_row store k) i) (refuse 9 w store at)) (refuse 8 w store at)
      (λ below. pick_ind Accepted (ltb k w.rows) (deliver_row w store at next (get_row store k) i) (refuse 9 w store at)
      (λ there. row-delivering (ltb-true i w.n below) (ltb-true k w.rows there)) (λ there e. absurd (omega arith)))
      (λ below e. absurd (omega arith))

-- neither 16 nor 17, and the command read is the delivery
pub delivering :
    (w : World) (store list : List ℕ) (at : ℕ) (d : Delivery) (next : ℕ) →
    read_command list at ≡ found (Command·.Deliver d) next → (one_command w store list at).number ≡ 0 →
    Delivering w store d.row d.site (one_command w store list at)
unfolding Accepted one_command play_command perform_read perform found refuse
delivering w store list at d next reading =
    pick_ind If (ltb (length store) store_bytes) (refuse 16 w store at)
    (pick (valid_world w) (play_command w store list at) (refuse 17 w store at))
    (λ short e. absurd (omega arith))
    (λ long. pick_ind If (valid_world w) (play_command w store list at) (refuse 17 w store at)
    (λ valid. rw reading (call-delivering w store valid at next d.row d.site))
    (λ invalid e. absurd (omega arith)))
  where
    If : Call → Type 0
    If c = c.number ≡ 0 → Delivering w store d.row d.site c

-- a delivery's 17: its news would pass the limit

module _ (w : World) (store : List ℕ) (at next k i : ℕ) where
  Past : Call → Type 0
  Past c = c.number ≡ 17 → max_news < w.news + (delivery_of w store k i).step.news

  past-pick : (t : Bool) (a b : Call) → Past a → Past b → Past (pick t a b)
  past-pick true a b p q = p
  past-pick false a b p q = q

  past-refused : (number : ℕ) → eqb number 17 ≡ false → Past (refuse number w store at)
  unfolding Past refuse
  past-refused number e z = absurd (eqb-false number 17 e z)

  -- an accepted move, or 17
  past-within : (c : Call) → c.number ≡ 0 → Past (within_news w store at (delivery_of w store k i) c)
  unfolding Past within_news refuse
  past-within c e =
      pick_ind Past (leb (w.news + (delivery_of w store k i).step.news) max_news) c (refuse 17 w store at)
      (λ _ z. absurd (omega (arith, e, z))) (λ more _. leb-false (w.news + (delivery_of w store k i).step.news) max_news more)

  past-enter : Past (enter w store at next i (delivery_of w store k i))
  unfolding enter enter_silent enter_row
  past-enter =
      past-pick (eqb (delivery_of w store k i).step.row.kind 0)
      (within_news w store at (delivery_of w store k i) (enter_silent w store next i (delivery_of w store k i)))
      (pick (ltb w.rows max_rows) (within_news w store at (delivery_of w store k i) (enter_row w store next i (delivery_of w store k i)))
      (refuse 15 w store at))
      (past-within (enter_silent w store next i (delivery_of w store k i)) refl)
      (past-pick (ltb w.rows max_rows)
      (within_news w store at (delivery_of w store k i) (enter_row w store next i (delivery_of w store k i))) (refuse 15 w store at)
      (past-within (enter_row w store next i (delivery_of w store k i)) refl) (past-refused 15 refl))

  past-there : Past (pick (ltb k w.rows) (deliver_row w store at next (get_row store k) i) (refuse 9 w store at))
  unfolding deliver_row
  past-there = search (past-pick, past-enter, past-refused) depth 8

  past-call :
      (deliver_call w store at next k i).number ≡ 17 → (i < w.n) × (max_news < w.news + (delivery_of w store k i).step.news)
  unfolding Past deliver_call refuse
  past-call =
      pick_ind (λ c. c.number ≡ 17 → (i < w.n) × (max_news < w.news + (delivery_of w store k i).step.news)) (ltb i w.n)
      (pick (ltb k w.rows) (deliver_row w store at next (get_row store k) i) (refuse 9 w store at)) (refuse 8 w store at)
      (λ below z. (ltb-true i w.n below, past-there z)) (λ _ z. absurd (omega arith))

pub delivery-past :
    (w : World) (store list : List ℕ) (at : ℕ) (d : Delivery) (next : ℕ) →
    read_command list at ≡ found (Command·.Deliver d) next → valid_world w ≡ true → (one_command w store list at).number ≡ 17 →
    (d.site < w.n) × (max_news < w.news + (delivery_of w store d.row d.site).step.news)
unfolding one_command play_command perform_read perform found refuse
delivery-past w store list at d next reading valid =
    rw valid
    (pick_ind
    (λ c. c.number ≡ 17 → (d.site < w.n) × (max_news < w.news + (delivery_of w store d.row d.site).step.news))
    (ltb (length store) store_bytes) (refuse 16 w store at) (play_command w store list at) (λ _ z. absurd (omega arith))
    (λ _. rw reading (past-call w store at next d.row d.site)))
