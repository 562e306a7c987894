-- The rows of a round of a quiet day: its command, and the replies after it. They read back, and are rows.
use Prim.Native.Nat.{ℕ, zero, suc, ◌+◌, ◌≤◌, ◌<◌}
use Rattle.std.specs.Prelude.{true, List, ◌≡◌, leb, eqb, length}
use Rattle.std.proofs.Math.Path.{refl, ap}
use Rattle.std.proofs.Common.{sym, ◌∙◌, arith}
use borrow.Author.Tests.{lt-ltb, le-leb}
use Rattle.choice.specs.Choice.{either}
use Rattle.choice.specs.laws.ChoiceLaws.{pick_ind}
use Rattle.choice.specs.laws.Cases.{by_equal}
use Rattle.bits.specs.Bits.{only_site}
use Rattle.row.specs.declared.Row.{Row}
use Rattle.row.specs.Rows.{row_place, put_row, get_row, row_known}
use Rattle.row.specs.laws.RowLaws.{put_row-length, get_row-same, get_row_else}
use Rattle.rules.specs.Rules.{command_row, reply_row}
use Rattle.bits.specs.laws.Sets.{other-small}
use Rattle.quiet_run.specs.Claims.{RowIs, RoundRows}
use Rattle.quiet_run.proofs.laws.Vectors.{codes_of, codes_at, codes-length, codes_known_lem}
use Rattle.quiet_run.proofs.laws.Stages.{
  Stage,
  fresh,
  voted,
  grouped,
  ended,
  Round,
  votes,
  joins,
  outcomes,
  to,
  heard,
  knows,
  own_code,
  rest_code,
  kind_of,
  reply_of,
  site_in,
  coordinator_at,
  subordinate_at,
}

-- the codes of a stage are codes
own-small : (stage : Stage) → own_code stage ≤ 5
unfolding own_code
own-small fresh = omega arith
own-small voted = omega arith
own-small grouped = omega arith
own-small ended = omega arith

rest-small : (stage : Stage) → rest_code stage ≤ 5
unfolding rest_code
rest-small fresh = omega arith
rest-small voted = omega arith
rest-small grouped = omega arith
rest-small ended = omega arith

pub kind-small : (r : Round) → (1 ≤ kind_of r) × (kind_of r ≤ 7) × (1 ≤ reply_of r) × (reply_of r ≤ 7)
unfolding kind_of reply_of
kind-small votes = (omega arith, omega arith, omega arith, omega arith)
kind-small joins = (omega arith, omega arith, omega arith, omega arith)
kind-small outcomes = (omega arith, omega arith, omega arith, omega arith)

module _ (n : ℕ) where
  -- the rows of a round: its command as row k, and the replies of p sites after it
  unfoldable pub command_of : Round → Row
  command_of r = command_row (kind_of r) 0 n (coordinator_at n (to r) 0)

  unfoldable pub reply_from : Round → ℕ → Row
  reply_from r j = reply_row (reply_of r) j 0 (subordinate_at n (to r) j)

  unfoldable pub sent_to : Round → ℕ → List ℕ → ℕ → List ℕ
  sent_to r k s zero = put_row s k (command_of r)
  sent_to r k s (suc p) = put_row (sent_to r k s p) (k + suc p) (reply_from r (suc p))

  -- the rows, as they read

  pub sent-length : (r : Round) (k : ℕ) (s : List ℕ) (p : ℕ) → length (sent_to r k s p) ≡ length s
  unfolding sent_to
  sent-length r k s zero = put_row-length s k (command_of r)
  sent-length r k s (suc p) = put_row-length (sent_to r k s p) (k + suc p) (reply_from r (suc p)) ∙ sent-length r k s p

  module _ (r : Round) (k : ℕ) (s : List ℕ) (few : n ≤ 16) (some : 0 < n) (rows : k + n ≤ 1024) (room : 20480 ≤ length s) where
    pub command-reads : (p : ℕ) → get_row (sent_to r k s p) k ≡ command_of r
    unfolding sent_to command_of command_row coordinator_at site_in row_place
    command-reads zero =
        get_row-same s k (command_of r) (omega arith) (omega arith) (other-small n 0 few)
        (codes-length n (heard 0 (own_code (to r)) (rest_code (to r))))
    command-reads (suc p) =
        get_row_else (sent_to r k s p) (k + suc p) (reply_from r (suc p)) k (λ e. omega arith) ∙ command-reads p

    pub reply-reads : (p q : ℕ) → q < p → p < n → get_row (sent_to r k s p) (k + suc q) ≡ reply_from r (suc q)
    unfolding sent_to reply_from reply_row subordinate_at site_in row_place only_site
    reply-reads zero q less most = absurd (omega arith)
    reply-reads (suc p) q less most =
        by_equal q p
        (λ e. ap (λ x. get_row (sent_to r k s (suc p)) (k + suc x)) e
        ∙ get_row-same (sent_to r k s p) (k + suc p) (reply_from r (suc p)) (omega (arith, sent-length r k s p)) (omega arith) (omega arith)
        (codes-length n (knows (suc p) (own_code (to r)) (rest_code (to r)))) ∙ ap (λ x. reply_from r (suc x)) (sym e))
        (λ e. get_row_else (sent_to r k s p) (k + suc p) (reply_from r (suc p)) (k + suc q) (λ z. omega arith)
        ∙ reply-reads p q (omega arith) (omega arith))

  -- and are rows

  row_known_lem :
      n ≤ 16 → (row : Row) (f : ℕ → ℕ) → 1 ≤ row.kind → row.kind ≤ 7 → row.sender < n → row.codes ≡ codes_of n f → ((k : ℕ) → f k ≤ 5) →
      row_known n row ≡ true
  unfolding row_known
  row_known_lem few row f low high below e small =
      rw (le-leb 1 row.kind low, le-leb row.kind 7 high, lt-ltb row.sender n below, e)
      (codes_known_lem n (codes_of n f) (λ k h. rw (codes_at n f k few h) (small k)))

  pub command-known : n ≤ 16 → 0 < n → (r : Round) → row_known n (command_of r) ≡ true
  unfolding command_of command_row coordinator_at site_in heard
  command-known few some r =
      row_known_lem few (command_of r) (heard 0 (own_code (to r)) (rest_code (to r))) (kind-small r).0 (kind-small r).1 some refl
      (λ k. pick_ind (λ x. x ≤ 5) (leb k 0) (own_code (to r)) (rest_code (to r)) (λ _. own-small (to r)) (λ _. rest-small (to r)))

  pub reply-known : n ≤ 16 → (r : Round) (j : ℕ) → j < n → row_known n (reply_from r j) ≡ true
  unfolding reply_from reply_row subordinate_at site_in knows
  reply-known few r j below =
      row_known_lem few (reply_from r j) (knows j (own_code (to r)) (rest_code (to r))) (kind-small r).2 (kind-small r).3 below refl
      (λ k. pick_ind (λ x. x ≤ 5) (either (eqb k 0) (eqb k j)) (own_code (to r)) (rest_code (to r)) (λ _. own-small (to r))
      (λ _. rest-small (to r)))

  -- THE ROWS of a round; those below its command are left
  pub round_rows :
      (m : ℕ) → n ≡ suc m → n ≤ 16 → (r : Round) (k : ℕ) (s : List ℕ) → k + n ≤ 1024 → 20480 ≤ length s →
      RoundRows n (sent_to r k s m) k (kind_of r) (reply_of r)
  unfolding command_of command_row reply_from reply_row
  round_rows m size few r k s rows room =
      record {
        command-is =
            let e : get_row (sent_to r k s m) k ≡ command_of r = command-reads r k s few (omega arith) rows room m in
            record { kind-is = ap (λ x. x.kind) e; sender-is = ap (λ x. x.sender) e };
        replies_are = replies;
      }
    where
      replies : (j : ℕ) → 0 < j → j < n → RowIs (sent_to r k s m) (k + j) (reply_of r) j
      replies zero some below = absurd (omega arith)
      replies (suc q) some below =
          let e : get_row (sent_to r k s m) (k + suc q) ≡ reply_from r (suc q) =
          reply-reads r k s few (omega arith) rows room m q (omega arith) (omega arith) in
          record { kind-is = ap (λ x. x.kind) e; sender-is = ap (λ x. x.sender) e }

  sent-below : (r : Round) (k : ℕ) (s : List ℕ) (p j : ℕ) → j < k → get_row (sent_to r k s p) j ≡ get_row s j
  unfolding sent_to
  sent-below r k s zero j h = get_row_else s k (command_of r) j (λ e. omega arith)
  sent-below r k s (suc p) j h =
      get_row_else (sent_to r k s p) (k + suc p) (reply_from r (suc p)) j (λ e. omega arith) ∙ sent-below r k s p j h

  row-left :
      (r : Round) (k : ℕ) (s : List ℕ) (p j kind sender : ℕ) → j < k → RowIs s j kind sender → RowIs (sent_to r k s p) j kind sender
  row-left r k s p j kind sender h is =
      record {
        kind-is = ap (λ x. x.kind) (sent-below r k s p j h) ∙ is.kind-is;
        sender-is = ap (λ x. x.sender) (sent-below r k s p j h) ∙ is.sender-is;
      }

  pub rows_left :
      (r : Round) (k : ℕ) (s : List ℕ) (p i command reply : ℕ) → 0 < n → i + n ≤ k → RoundRows n s i command reply →
      RoundRows n (sent_to r k s p) i command reply
  rows_left r k s p i command reply some h are =
      record {
        command-is = row-left r k s p i command 0 (omega arith) are.command-is;
        replies_are = λ j low below. row-left r k s p (i + j) reply j (omega arith) (are.replies_are j low below);
      }
