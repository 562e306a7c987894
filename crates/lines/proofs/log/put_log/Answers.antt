use Rattle.text.specs.laws.PageLaws.{joined}
use Rattle.lines.specs.Lines.{log_letters}
use Rattle.lines.proofs.log.put_log.Goals as goal

pub returns-clause-put : goal.returns-clause-put
unfolding log_letters
returns-clause-put c =
    rw (c.prepare_letter.ensures, c.group_letter.ensures, c.outcome_letter.ensures)
    (joined (joined c.put_byte.ensures.put c.put_byte-2.ensures.put) c.put_byte-3.ensures.put)
