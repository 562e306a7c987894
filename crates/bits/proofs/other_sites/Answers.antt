use native.Mathlib.Omega.{arith}
use lib.Pow.{pow_pos}
use Rattle.bits.specs.Bits.{only_site, every_site, other_sites}
use Rattle.bits.specs.laws.BitLaws.{one_of}
use Rattle.bits.proofs.other_sites.Goals as goal

pub overflow_sub-result : goal.overflow_sub-result
unfolding only_site
overflow_sub-result c = rw c.only_site.ensures (pow_pos c.args.n)

pub overflow_sub-result-2 : goal.overflow_sub-result-2
unfolding only_site
overflow_sub-result-2 c = omega (arith, one_of c.args.n c.args.own (omega arith), c.only_site-2.ensures, c.only_site.ensures)

pub returns : goal.returns
unfolding only_site every_site other_sites
returns c = cc
