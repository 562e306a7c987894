use Rattle.spelling.specs.LineReading.{end_line, bad_line}
use Rattle.command.specs.Commands.{found, refused}
use Rattle.text.specs.Text.{text}
use mathlib.Core.Path.{sym, ◌∙◌}
use Rattle.line_ends.proofs.end_line.Goals as goal

pub returns-then-word_at : goal.returns-then-word_at
unfolding text end_line found
returns-then-word_at c = simp (sym c.word_at.ensures ∙ c.if-word_at.true)

pub returns : goal.returns
unfolding text end_line bad_line refused
returns c = simp (sym c.word_at.ensures ∙ c.if-word_at.false, c.at.ensures)
