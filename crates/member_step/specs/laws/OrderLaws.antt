-- What is read of an order's bytes: by its first byte, with its number, and with room for a delivery's row.
use Rattle.std.specs.Prelude.{ℕ, ◌≤◌, List, [], ◌∷◌, ◌≡◌, refl, ltb, leb, eqb, length, get_or}
use Rattle.std.proofs.Common.{sym, subst, arith, lt-ltb, ltb-false, ne_eqb}
use Rattle.choice.specs.Choice.{pick, both}
use Rattle.choice.specs.laws.Cases.{by_test, by_equal}
use Rattle.choice.specs.laws.ChoiceLaws.{pick_ind}
use Rattle.command.specs.laws.CommandLaws.{none-known}
use Rattle.member.specs.declared.Order.{Order}
use Rattle.member.specs.declared.Order.TheVariants as Order·
use Rattle.member.specs.Hearings.{Heard}
use Rattle.std.specs.Prelude.{Ok, Err}
use Rattle.refusals.specs.declared.Reason.TheVariants as Reason·
use Rattle.member.specs.Orders.{refused_with, read_row, order_of, read_order, heard_number, order_number}

-- no byte at all is read as a byte 0 is
pub first_byte : (bytes : List ℕ) → read_order bytes ≡ order_of (get_or bytes 0 0) bytes
unfolding read_order order_of
first_byte [] = refl
first_byte (byte ∷ bytes) = rw (lt-ltb 0 (length (byte ∷ bytes)) (omega arith))

-- what is left to ask once there is a command byte
after : ℕ → List ℕ → ℕ
after byte bytes = pick (both (leb 1 byte) (leb byte 5)) (pick (both (eqb byte 2) (ltb (length bytes) 21)) 7 0) 6

row_number : (bytes : List ℕ) → heard_number (read_row bytes) ≡ pick (ltb (length bytes) 21) 7 0
unfolding read_row refused_with heard_number
row_number bytes = by_test (ltb (length bytes) 21) (λ e. rw e) (λ e. rw e)

byte_number : (byte : ℕ) (bytes : List ℕ) → heard_number (order_of byte bytes) ≡ after byte bytes
unfolding order_of refused_with heard_number after
byte_number byte bytes =
    by_equal byte 1 (λ e. rw e refl) λ n1.
    by_equal byte 2 (λ e. rw e (row_number bytes)) λ n2.
    by_equal byte 3 (λ e. rw e refl) λ n3.
    by_equal byte 4 (λ e. rw e refl) λ n4.
    by_equal byte 5 (λ e. rw e refl) λ n5.
    rw (ne_eqb byte 1 n1, ne_eqb byte 2 n2, ne_eqb byte 3 n3, ne_eqb byte 4 n4, ne_eqb byte 5 n5, none-known byte n1 n2 n3 n4 n5)

-- the number of what is heard is the one said of the bytes
pub heard_number_lem : (bytes : List ℕ) → heard_number (read_order bytes) ≡ order_number bytes
unfolding read_order refused_with heard_number order_number after
heard_number_lem bytes =
    by_test (ltb 0 (length bytes)) (λ e. rw e (byte_number (get_or bytes 0 0) bytes)) (λ e. rw e)

-- a delivery has its row's twenty bytes
unfoldable Roomy : List ℕ → Heard → Type 0
Roomy bytes (Err r) = Unit
Roomy bytes (Ok Order·.Start) = Unit
Roomy bytes (Ok Order·.Deliver) = 21 ≤ length bytes
Roomy bytes (Ok Order·.Timeout) = Unit
Roomy bytes (Ok Order·.Crash) = Unit
Roomy bytes (Ok Order·.Recover) = Unit

row_roomy : (bytes : List ℕ) → Roomy bytes (read_row bytes)
unfolding Roomy read_row refused_with
row_roomy bytes =
    pick_ind (Roomy bytes) (ltb (length bytes) 21) (refused_with Reason·.OperandsCut) (Ok Order·.Deliver)
    (λ _. tt) (λ e. ltb-false (length bytes) 21 e)

order_roomy : (byte : ℕ) (bytes : List ℕ) → Roomy bytes (order_of byte bytes)
unfolding Roomy order_of refused_with
order_roomy byte bytes =
    pick_ind (Roomy bytes) (eqb byte 1) _ _ (λ _. tt) λ _.
    pick_ind (Roomy bytes) (eqb byte 2) _ _ (λ _. row_roomy bytes) λ _.
    pick_ind (Roomy bytes) (eqb byte 3) _ _ (λ _. tt) λ _.
    pick_ind (Roomy bytes) (eqb byte 4) _ _ (λ _. tt) λ _.
    pick_ind (Roomy bytes) (eqb byte 5) _ _ (λ _. tt) (λ _. tt)

pub delivery-room : (bytes : List ℕ) → read_order bytes ≡ Ok Order·.Deliver → 21 ≤ length bytes
unfolding Roomy
delivery-room bytes e =
    let room : Roomy bytes (Ok Order·.Deliver) =
    subst (Roomy bytes) e (subst (Roomy bytes) (sym (first_byte bytes)) (order_roomy (get_or bytes 0 0) bytes)) in
    room

pub ruleset rooms = (delivery-room)
