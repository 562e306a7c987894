use Rattle.text.specs.Text.{text}
use Rattle.lines.specs.Lines.{state_word}
use Rattle.lines.proofs.words.put_state.Goals as goal

pub returns-in-Active-clause-put : goal.returns-in-Active-clause-put
unfolding text state_word
returns-in-Active-clause-put c = rw c.in-Active.is c.put_word.ensures

pub returns-in-Prepared-clause-put : goal.returns-in-Prepared-clause-put
unfolding text state_word
returns-in-Prepared-clause-put c = rw c.in-Prepared.is c.put_word-in-Prepared.ensures

pub returns-in-CommitGroup-clause-put : goal.returns-in-CommitGroup-clause-put
unfolding text state_word
returns-in-CommitGroup-clause-put c = rw c.in-CommitGroup.is c.put_word-in-CommitGroup.ensures

pub returns-in-AbortGroup-clause-put : goal.returns-in-AbortGroup-clause-put
unfolding text state_word
returns-in-AbortGroup-clause-put c = rw c.in-AbortGroup.is c.put_word-in-AbortGroup.ensures

pub returns-in-Committed-clause-put : goal.returns-in-Committed-clause-put
unfolding text state_word
returns-in-Committed-clause-put c = rw c.in-Committed.is c.put_word-in-Committed.ensures

pub returns-in-Aborted-clause-put : goal.returns-in-Aborted-clause-put
unfolding text state_word
returns-in-Aborted-clause-put c = rw c.in-Aborted.is c.put_word-in-Aborted.ensures
