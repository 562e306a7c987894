-- A message, and the row that is kept of it.
-- Kinds: 1 prepare, 2 vote, 3 join commit group, 4 join abort group, 5 in-group, 6 outcome, 7 outcome-ack.
use Rattle.std.specs.Prelude.{ℕ, ◌≡◌, ◌≤◌, Option, Some, None, Result, MatchResult}
use Rattle.row.specs.declared.Row.{Row}
use Rattle.row.specs.declared.message.Kind.{Kind}
use Rattle.row.specs.declared.message.Kind.TheVariants as Kind·
use Rattle.row.specs.declared.message.UnknownKind.{UnknownKind}
use Rattle.row.specs.declared.message.Message.{Message}
use Rattle.row.specs.Rows.{no_row}

abbrev pub kind_number : Kind → ℕ
kind_number Kind·.Prepare = 1
kind_number Kind·.Vote = 2
kind_number Kind·.JoinCommit = 3
kind_number Kind·.JoinAbort = 4
kind_number Kind·.InGroup = 5
kind_number Kind·.Outcome = 6
kind_number Kind·.OutcomeAck = 7

-- the kind of a number, or a number that is none of 1 to 7
abbrev pub Names : ℕ → Result Kind UnknownKind → Type 0
Names number r = MatchResult r (λ kind. kind_number kind ≡ number) (λ e. (e.0 ≡ number) × (1 ≤ number → number ≤ 7 → ⊥))

abbrev pub row_of : Message → Row
row_of m = record { kind = kind_number m.kind; sender = m.sender; destinations = m.destinations; codes = m.codes }

-- the row of a message, or no row where none is sent
abbrev pub row_sent : Option Message → Row
row_sent None = no_row
row_sent (Some m) = row_of m
