use Rattle.scan.specs.laws.NumberLaws.{digit_range}
use Rattle.scan.proofs.is_digit.Goals as goal

pub returns : goal.returns
returns c = digit_range _ _ (rw (c.new.ensures.start, c.new.ensures.end, c.new.ensures.exhausted) at c.contains.ensures.value)
