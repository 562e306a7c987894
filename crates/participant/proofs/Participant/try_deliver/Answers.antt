use Rattle.std.proofs.Common.{rules, sym, ◌∙◌}
use Rattle.row.specs.laws.KnownLaws.{known-sender}
use Rattle.participant.proofs.Participant.try_deliver.Goals as goal

pub deliver-requires : goal.deliver-requires
deliver-requires c =
    (search rules, search rules, known-sender c.args.self.n c.args.row (sym c.row_known.ensures ∙ c.if-not-row_known.false))
