use native.Mathlib.Omega.{arith}
use Rattle.text.specs.Text.{text, named}
use Rattle.text.specs.laws.PageLaws.{joined}
use Rattle.lines.specs.laws.LineLaws.{SmallSizes, small-sizes}
use Rattle.lines.proofs.lines.put_quorums.Goals as goal

pub put_named-requires : goal.put_named-requires
put_named-requires c = let s : SmallSizes _ = small-sizes _ c.requires.0 in (omega arith, omega arith)

pub put_named-requires-2 : goal.put_named-requires-2
put_named-requires-2 c = let s : SmallSizes _ = small-sizes _ c.requires.0 in (omega arith, omega arith)

pub put_named-requires-3 : goal.put_named-requires-3
put_named-requires-3 c = let s : SmallSizes _ = small-sizes _ c.requires.0 in (omega arith, omega arith)

pub returns-clause-put : goal.returns-clause-put
unfolding text named
returns-clause-put c = joined (joined c.put_named.ensures.put c.put_named-2.ensures.put) c.put_named-3.ensures.put
