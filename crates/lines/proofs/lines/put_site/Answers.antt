use Rattle.text.specs.Text.{text}
use Rattle.text.specs.laws.PageLaws.{joined}
use Rattle.lines.specs.Lines.{site_line}
use Rattle.lines.proofs.lines.put_site.Goals as goal

pub returns-clause-put : goal.returns-clause-put
unfolding text site_line
returns-clause-put c =
    joined (joined (joined (joined c.put_standing.ensures.put c.put_log.ensures.put) c.put_byte.ensures.put) c.put_codes.ensures.put) c.put_byte-2.ensures.put
