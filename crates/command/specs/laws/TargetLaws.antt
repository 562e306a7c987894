-- The three commands that name a site and nothing else, read alike.
use Rattle.std.specs.Prelude.{ℕ, ◌+◌, ◌≤◌, List, ◌≡◌, refl, eqb}
use Rattle.std.proofs.Common.{arith, ne_eqb}
use Rattle.choice.specs.Choice.{pick}
use Rattle.choice.specs.laws.Cases.{by_equal}
use Rattle.command.specs.declared.Command.{Command}
use Rattle.command.specs.declared.Command.TheVariants as Command·
use Rattle.command.specs.declared.Target.{Target}
use Rattle.command.specs.Commands.{read_target, read_byte, refused}

-- the command of a byte of 3 to 5
unfoldable pub target_command : ℕ → Target → Command
target_command byte t =
    pick (eqb byte 3) (Command·.Timeout t) (pick (eqb byte 4) (Command·.Crash t) (Command·.Recover t))

-- a number that is not the least it can be
pub past : (k byte : ℕ) → (byte ≡ k → ⊥) → k ≤ byte → 1 + k ≤ byte
past k byte other h = omega arith

-- such a byte is read by it
pub target_byte :
    (byte : ℕ) (list : List ℕ) (at : ℕ) → (byte ≡ 1 → ⊥) → (byte ≡ 2 → ⊥) → 1 ≤ byte → byte ≤ 5 →
    read_target (target_command byte) list at ≡ read_byte byte list at
unfolding read_byte target_command read_target
target_byte byte list at n1 n2 low high =
    by_equal byte 3 (λ e. rw e refl) λ n3.
    by_equal byte 4 (λ e. rw e refl) λ n4.
    rw (five (past 4 byte n4 (past 3 byte n3 (past 2 byte n2 (past 1 byte n1 low)))) high) refl
  where
    five : {b : ℕ} → 5 ≤ b → b ≤ 5 → b ≡ 5
    five low high = omega arith
