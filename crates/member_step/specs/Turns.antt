-- What an order makes a member do, of a member below n.
use Rattle.std.specs.Prelude.{ℕ, List, Result, Ok, Err}
use Rattle.refusals.specs.declared.Reason.{Reason}
use Rattle.site.specs.declared.Site.{Site}
use Rattle.rules.specs.Rules.{Move}
use Rattle.participant.specs.Turns.{start_turn, deliver_turn, timeout_turn, crash_turn, recover_turn}
use Rattle.member.specs.declared.Member.{Member}
use Rattle.member.specs.declared.Order.{Order}
use Rattle.member.specs.declared.Order.TheVariants as Order·
use Rattle.member.specs.Orders.{row_in}

unfoldable pub turn_by : Order → List ℕ → Member → Site → Result Move Reason
turn_by Order·.Start bytes m s = start_turn m.own m.n m.willing s
turn_by Order·.Deliver bytes m s = deliver_turn m.own m.n m.willing (row_in bytes) s
turn_by Order·.Timeout bytes m s = timeout_turn m.own m.n m.weights m.commit m.abort s
turn_by Order·.Crash bytes m s = crash_turn m.own s
turn_by Order·.Recover bytes m s = recover_turn m.own s
