use Rattle.text.specs.Text.{text}
use Rattle.lines.specs.Lines.{prepare_letter}
use Rattle.lines.proofs.log.prepare_letter.Goals as goal

pub returns-then-prepared : goal.returns-then-prepared
unfolding text prepare_letter
returns-then-prepared c = rw c.if-prepared.true

pub returns : goal.returns
unfolding text prepare_letter
returns c = rw c.if-prepared.false
