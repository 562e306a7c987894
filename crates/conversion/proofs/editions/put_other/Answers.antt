use native.Mathlib.Omega.{arith}
use Rattle.conversion.specs.laws.ConversionLaws.{second-length}
use Rattle.spelling.specs.Spelling.{header_bytes}
use Rattle.conversion.specs.Conversion.{other_bytes}
use Rattle.conversion.proofs.editions.put_other.Goals as goal

pub put_header-requires : goal.put_header-requires
unfolding other_bytes header_bytes
put_header-requires c = (c.requires.0, rw c.if-second.true at c.requires.1)

pub returns-then-second : goal.returns-then-second
unfolding other_bytes header_bytes
returns-then-second c = rw c.if-second.true c.put_header.ensures

pub put_second-requires : goal.put_second-requires
unfolding other_bytes header_bytes
put_second-requires c = (c.requires.0, omega (arith, second-length c.args.header, rw c.if-second.false at c.requires.1))

pub returns : goal.returns
unfolding other_bytes header_bytes
returns c = rw c.if-second.false c.put_second.ensures
