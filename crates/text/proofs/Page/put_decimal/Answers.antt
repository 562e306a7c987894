use Rattle.text.specs.Text.{decimal}
use Rattle.text.specs.laws.PageLaws.{joined}
use Rattle.text.proofs.Page.put_decimal.Goals as goal

pub returns-clause-put : goal.returns-clause-put
unfolding decimal
returns-clause-put c = joined (joined (joined (joined (joined c.put_digit.ensures.put c.put_digit-2.ensures.put) c.put_digit-3.ensures.put) c.put_digit-4.ensures.put) c.put_digit-5.ensures.put) c.put_byte.ensures.put
