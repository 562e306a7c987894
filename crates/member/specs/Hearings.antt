-- What a member hears of its bytes: an order, or why there is none.
use Rattle.std.specs.Prelude.{Result}
use Rattle.refusals.specs.declared.Reason.{Reason}
use Rattle.member.specs.declared.Order.{Order}

abbrev pub Heard : Type 0
Heard = Result Order Reason
