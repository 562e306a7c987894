use Rattle.text.specs.laws.PageLaws.{joined}
use Rattle.conversion.specs.Conversion.{second_bytes}
use Rattle.conversion.proofs.editions.put_second.Goals as goal

pub returns : goal.returns
unfolding second_bytes
returns c = joined (joined (joined (joined c.put_word.ensures c.put_pair.ensures.put) c.put_pair-2.ensures.put) c.put_pair-3.ensures.put) c.put_ones.ensures
