-- The rows of a visit: which of them pass 10, and read back.
use Rattle.std.specs.Prelude.{ℕ, ◌≤◌, ◌<◌, true, ◌≡◌, ltb, leb, get_or}
use Rattle.std.proofs.Common.{arith, lt-ltb, le-leb}
use Rattle.choice.specs.Choice.{both}
use Rattle.choice.specs.laws.ChoiceLaws.{both-on, both-second}
use Rattle.row.specs.declared.Row.{Row}
use Rattle.row.specs.Rows.{codes_known, row_known}
use Rattle.member.specs.laws.SoundSites.{known_small}
use Rattle.quiet_run.proofs.laws.Vectors.{codes_known_lem}
use Rattle.termination.proofs.laws.Answers.{IsCommand, prepare, join-commit, join_abort_lem, outcome, IsReply, vote, in_group, ack}

-- kinds are 1 to 7
pub record Kinded (kind : ℕ) : Type 0 where
  pub some : 1 ≤ kind
  pub most : kind ≤ 7

pub command-kinded : (kind : ℕ) → IsCommand kind → Kinded kind
command-kinded kind prepare = record { some = omega arith; most = omega arith }
command-kinded kind join-commit = record { some = omega arith; most = omega arith }
command-kinded kind join_abort_lem = record { some = omega arith; most = omega arith }
command-kinded kind outcome = record { some = omega arith; most = omega arith }

pub reply-kinded : (kind : ℕ) → IsReply kind → Kinded kind
reply-kinded kind vote = record { some = omega arith; most = omega arith }
reply-kinded kind in_group = record { some = omega arith; most = omega arith }
reply-kinded kind ack = record { some = omega arith; most = omega arith }

-- a row of such a kind, from one of the sites and with codes to 5, passes 10
pub row_known_lem :
    (n : ℕ) (r : Row) → Kinded r.kind → r.sender < n → ((k : ℕ) → k < n → get_or r.codes k 0 ≤ 5) → row_known n r ≡ true
unfolding row_known
row_known_lem n r kinded below small =
    both-on (both (leb 1 r.kind) (leb r.kind 7)) (both (ltb r.sender n) (codes_known n r.codes))
    (both-on (leb 1 r.kind) (leb r.kind 7) (le-leb 1 r.kind kinded.some) (le-leb r.kind 7 kinded.most))
    (both-on (ltb r.sender n) (codes_known n r.codes) (lt-ltb r.sender n below) (codes_known_lem n r.codes small))

-- and one that passes 10 has codes to 5
pub known-codes : (n : ℕ) (r : Row) → row_known n r ≡ true → (k : ℕ) → k < n → get_or r.codes k 0 ≤ 5
unfolding row_known
known-codes n r e k h =
    known_small n r.codes
    (both-second (ltb r.sender n) (codes_known n r.codes)
    (both-second (both (leb 1 r.kind) (leb r.kind 7)) (both (ltb r.sender n) (codes_known n r.codes)) e)) k h
