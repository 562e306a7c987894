use Rattle.text.specs.laws.PageLaws.{joined}
use Rattle.text.proofs.Page.put_named.Goals as goal

pub returns-clause-put : goal.returns-clause-put
returns-clause-put c = joined c.put_word.ensures c.put_decimal.ensures.put
