use Rattle.text.specs.Text.{text, named}
use Rattle.text.specs.laws.PageLaws.{joined}
use Rattle.lines.specs.laws.LineLaws.{last_end, last-refused}
use Rattle.lines.proofs.lines.put_last.Goals as goal

pub returns-then-number-eq0-clause-put : goal.returns-then-number-eq0-clause-put
unfolding text named
returns-then-number-eq0-clause-put c = rw (last_end _ _ c.if-number-eq0.true) (joined c.put_named.ensures.put c.put_byte.ensures.put)

pub returns-clause-put : goal.returns-clause-put
unfolding text named
returns-clause-put c =
    rw (last-refused _ _ c.if-number-eq0.false) (joined (joined c.put_named-2.ensures.put c.put_named-3.ensures.put) c.put_byte-2.ensures.put)
