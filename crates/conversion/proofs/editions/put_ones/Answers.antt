use native.Mathlib.Omega.{arith}
use Rattle.std.proofs.Common.{◌≡◌}
use Rattle.text.specs.laws.PageLaws.{nothing}
use Rattle.conversion.specs.laws.ConversionLaws.{ones-more}
use Rattle.conversion.proofs.editions.put_ones.Goals as goal

pub loop-init : goal.loop-init
loop-init c = (omega arith, nothing _)

pub loop-preserved : goal.loop-preserved
loop-preserved c =
    let w = c.put_byte.ensures.put in (omega (arith, w.written.ends), ones-more c.loop.counter c.loop.invariant.1 w)

pub returns : goal.returns
returns c = let e : c.loop.counter ≡ c.args.n = omega arith in rw (← e) c.loop.invariant.1
