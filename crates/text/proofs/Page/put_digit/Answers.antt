use Rattle.text.specs.laws.PageLaws.{digit_out, digit_in}
use Rattle.text.proofs.Page.put_digit.Goals as goal

pub returns-then-x-unit-clause-put : goal.returns-then-x-unit-clause-put
returns-then-x-unit-clause-put c = digit_out _ _ _ c.if-x-unit.true

pub returns-clause-put : goal.returns-clause-put
returns-clause-put c = digit_in _ _ c.if-x-unit.false c.put_byte.ensures.put
