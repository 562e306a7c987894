-- The number and place of what is read, case by case.
use Rattle.std.specs.Prelude.{ℕ, ◌+◌, ◌≤◌, ◌<◌, Bool, true, false, List, ◌≡◌, refl, ltb, leb, eqb, length, get_or}
use Rattle.std.proofs.Common.{ap, ◌∙◌, arith, ltb-true, eqb-true, le-leb, leb-true, leb-false, eq-eqb, ne_eqb}
use Rattle.std.proofs.lemmas.Bool.{eqb-false, lt-leb}
use Rattle.choice.specs.Choice.{pick, both}
use Rattle.choice.specs.laws.Cases.{by_test, by_equal}
use Rattle.command.specs.declared.Command.{Command}
use Rattle.command.specs.declared.Command.TheVariants as Command·
use Rattle.command.specs.declared.Target.{Target}
use Rattle.refusals.specs.declared.Reason.{Reason}
use Rattle.refusals.specs.declared.Reason.TheVariants as Reason·
use Rattle.refusals.specs.Refusals.{number_of}
use Rattle.command.specs.Readings.{Mark}
use Rattle.command.specs.laws.TargetLaws.{past}
use Rattle.command.specs.Commands.{found, refused, read_target, read_delivery, read_byte, read_command, refusal_of, operand_bytes, refusal_at}

-- what is left to ask once there is a command byte
after : ℕ → List ℕ → ℕ → Mark
after byte list at =
    pick (both (leb 1 byte) (leb byte 5))
    (pick (leb (at + (1 + operand_bytes byte)) (length list)) (record { number = 0; place = at + (1 + operand_bytes byte) })
    (record { number = 7; place = at }))
    (record { number = 6; place = at })

refused_of :
    (reason : Reason) (place : ℕ) → refusal_of (refused reason place) ≡ record { number = number_of reason; place = place }
unfolding refused refusal_of
refused_of reason place = refl

start_of : (list : List ℕ) (at : ℕ) → refusal_of (found Command·.Start (at + 1)) ≡ record { number = 0; place = at + 1 }
unfolding found refusal_of
start_of list at = refl

of_target :
    (command : Target → Command) (list : List ℕ) (at : ℕ) →
    refusal_of (read_target command list at)
    ≡ pick (leb (at + 2) (length list)) (record { number = 0; place = at + 2 }) (record { number = 7; place = at })
unfolding read_target found refused refusal_of
of_target command list at = by_test (leb (at + 2) (length list)) (λ e. rw e) (λ e. rw e)

of_delivery :
    (list : List ℕ) (at : ℕ) →
    refusal_of (read_delivery list at)
    ≡ pick (leb (at + 4) (length list)) (record { number = 0; place = at + 4 }) (record { number = 7; place = at })
unfolding read_delivery found refused refusal_of
of_delivery list at = by_test (leb (at + 4) (length list)) (λ e. rw e) (λ e. rw e)

never : {byte : ℕ} → 6 ≤ byte → byte ≤ 5 → ⊥
never low high = omega arith

-- a byte that is none of 1 to 5
pub none-known :
    (byte : ℕ) → (byte ≡ 1 → ⊥) → (byte ≡ 2 → ⊥) → (byte ≡ 3 → ⊥) → (byte ≡ 4 → ⊥) → (byte ≡ 5 → ⊥) →
    both (leb 1 byte) (leb byte 5) ≡ false
none-known byte n1 n2 n3 n4 n5 =
    by_test (leb 1 byte)
    (λ e. by_test (leb byte 5)
    (λ f. absurd (never (past 5 byte n5 (past 4 byte n4 (past 3 byte n3 (past 2 byte n2 (past 1 byte n1 (leb-true 1 byte e))))))
    (leb-true byte 5 f)))
    (λ f. rw (e, f)))
    (λ e. rw e)

of_byte : (byte : ℕ) (list : List ℕ) (at : ℕ) → at < length list → refusal_of (read_byte byte list at) ≡ after byte list at
unfolding read_byte after operand_bytes
of_byte byte list at h =
    by_equal byte 1 (λ e. rw (e, le-leb (at + 1) (length list) (omega arith)) (start_of list at)) λ n1.
    by_equal byte 2 (λ e. rw e (of_delivery list at)) λ n2.
    by_equal byte 3 (λ e. rw e (of_target _ list at)) λ n3.
    by_equal byte 4 (λ e. rw e (of_target _ list at)) λ n4.
    by_equal byte 5 (λ e. rw e (of_target _ list at)) λ n5.
    rw (ne_eqb byte 1 n1, ne_eqb byte 2 n2, ne_eqb byte 3 n3, ne_eqb byte 4 n4, ne_eqb byte 5 n5, none-known byte n1 n2 n3 n4 n5)
    (refused_of Reason·.NoCommand at)

-- number and place of the reader's answer are those said of the bytes
pub reading_refusal : (list : List ℕ) (at : ℕ) → refusal_of (read_command list at) ≡ refusal_at list at
unfolding read_command refusal_at after
reading_refusal list at =
    by_test (ltb at (length list))
    (λ e. rw e (of_byte (get_or list at 0) list at (ltb-true at (length list) e)))
    (λ e. rw e (refused_of Reason·.NoCommand at))
