use Rattle.text.specs.Text.{text}
use Rattle.lines.specs.Lines.{up_word}
use Rattle.lines.proofs.words.put_up.Goals as goal

pub returns-then-up-clause-put : goal.returns-then-up-clause-put
unfolding text up_word
returns-then-up-clause-put c = rw c.if-up.true c.put_word.ensures

pub returns-else-up-clause-put : goal.returns-else-up-clause-put
unfolding text up_word
returns-else-up-clause-put c = rw c.if-up.false c.put_word-else-up.ensures
