use native.Mathlib.Omega.{arith}
use Rattle.bits.specs.Bits.{only_site}
use Rattle.bits.specs.laws.BitLaws.{one_shifted}
use Rattle.bits.proofs.only_site.Goals as goal

pub returns : goal.returns
unfolding only_site
returns c = one_shifted c.args.site (omega arith)
