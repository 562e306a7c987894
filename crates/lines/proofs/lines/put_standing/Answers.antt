use native.Mathlib.Omega.{arith}
use Rattle.text.specs.laws.DecimalLaws.{decimal-below}
use Rattle.text.specs.laws.PageLaws.{joined}
use Rattle.lines.proofs.lines.put_standing.Goals as goal

pub put_state-requires : goal.put_state-requires
put_state-requires c = omega (arith, decimal-below 2 c.args.i (omega arith) (omega arith))

pub returns : goal.returns
returns c = record {
  put = joined (joined (joined c.put_decimal.ensures.put c.put_up.ensures.put) c.put_role.ensures.put) (rw c.state-state.ensures at c.put_state.ensures.put);
  upper_bound = omega (arith, decimal-below 2 c.args.i (omega arith) (omega arith));
}
