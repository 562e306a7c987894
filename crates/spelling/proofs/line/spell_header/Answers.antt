use Rattle.text.specs.laws.PageLaws.{joined}
use Rattle.text.specs.Text.{text, named}
use Rattle.spelling.specs.Spelling.{header_line}
use Rattle.spelling.proofs.line.spell_header.Goals as goal

pub returns-clause-put : goal.returns-clause-put
unfolding text named header_line
returns-clause-put c = joined (joined (joined (joined c.put_named.ensures.put c.put_named-2.ensures.put) c.put_named-3.ensures.put) c.put_named-4.ensures.put) c.put_byte.ensures.put
