use Rattle.text.specs.laws.PageLaws.{joined}
use Rattle.text.specs.Text.{text}
use Rattle.spelling.proofs.line.spell_site.Goals as goal

pub returns-clause-put : goal.returns-clause-put
unfolding text
returns-clause-put c = joined c.put_named.ensures.put c.put_byte.ensures.put
