-- A message's row is no `no_row`.
use Rattle.std.specs.Prelude.{ℕ, ◌≡◌}
use Rattle.row.specs.declared.message.Kind.{Kind}
use Rattle.row.specs.declared.message.Kind.TheVariants as Kind·
use Rattle.row.specs.Messages.{kind_number}

pub kind-some : (kind : Kind) → kind_number kind ≡ 0 → ⊥
kind-some Kind·.Prepare e = cc
kind-some Kind·.Vote e = cc
kind-some Kind·.JoinCommit e = cc
kind-some Kind·.JoinAbort e = cc
kind-some Kind·.InGroup e = cc
kind-some Kind·.Outcome e = cc
kind-some Kind·.OutcomeAck e = cc
