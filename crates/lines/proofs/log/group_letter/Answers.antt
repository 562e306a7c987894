use Rattle.text.specs.Text.{text}
use Rattle.lines.specs.Lines.{group_letter}
use Rattle.lines.proofs.log.group_letter.Goals as goal

pub returns-in-None : goal.returns-in-None
unfolding text group_letter
returns-in-None c = rw c.in-None.is

pub returns-in-Commit : goal.returns-in-Commit
unfolding text group_letter
returns-in-Commit c = rw c.in-Commit.is

pub returns-in-Abort : goal.returns-in-Abort
unfolding text group_letter
returns-in-Abort c = rw c.in-Abort.is
