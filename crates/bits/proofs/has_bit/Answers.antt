use lib.Pow.{pow_pos}
use Rattle.bits.specs.Bits.{only_site, has_bit}
use Rattle.bits.proofs.has_bit.Goals as goal

pub nonzero_div-result : goal.nonzero_div-result
unfolding only_site
nonzero_div-result c = rw c.only_site.ensures (pow_pos c.args.site)

pub returns : goal.returns
unfolding only_site has_bit
returns c = cc
