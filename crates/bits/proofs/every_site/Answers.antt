use lib.Pow.{pow_pos}
use Rattle.bits.specs.Bits.{only_site, every_site}
use Rattle.bits.proofs.every_site.Goals as goal

pub overflow_sub-result : goal.overflow_sub-result
unfolding only_site
overflow_sub-result c = rw c.only_site.ensures (pow_pos c.args.n)

pub returns : goal.returns
unfolding only_site every_site
returns c = cc
