use Rattle.text.specs.Text.{text}
use Rattle.lines.specs.Lines.{role_word}
use Rattle.lines.proofs.words.put_role.Goals as goal

pub returns-then-coordinator-clause-put : goal.returns-then-coordinator-clause-put
unfolding text role_word
returns-then-coordinator-clause-put c = rw c.if-coordinator.true c.put_word.ensures

pub returns-else-coordinator-clause-put : goal.returns-else-coordinator-clause-put
unfolding text role_word
returns-else-coordinator-clause-put c = rw c.if-coordinator.false c.put_word-else-coordinator.ensures
