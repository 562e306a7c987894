use Rattle.std.proofs.Common.{rules, ◌+◌}
use Rattle.quiet.specs.Quiet.{row_to}
use Rattle.quiet.specs.laws.QuietLaws.{exchanged}
use Rattle.quiet.proofs.exchange.put_exchange.Goals as goal

pub returns-clause-put : goal.returns-clause-put
unfolding row_to
returns-clause-put c =
    exchanged _ _ _ c.put_command.ensures (c.put_each.ensures.put (row_to c.args.row) (λ k d p. search rules))
    (c.put_each-2.ensures.put (λ j. row_to (c.args.row + j) 0) (λ k d p. search rules))
