use Rattle.spelling.specs.LineReading.{bad_line, read_line}
use mathlib.Core.Path.{sym, ◌∙◌}
use Rattle.command.specs.Commands.{found, refused}
use Rattle.command.specs.declared.Command.TheVariants as Command·
use Rattle.text.specs.Text.{text}
use Rattle.line_reader.proofs.read_line.Goals as goal

pub returns-then-word_at : goal.returns-then-word_at
unfolding text read_line found
returns-then-word_at c = simp (sym c.word_at.ensures ∙ c.if-word_at.true)

pub returns-then-word_at-2 : goal.returns-then-word_at-2
unfolding text read_line
returns-then-word_at-2 c = simp (sym c.word_at.ensures ∙ c.if-word_at.false, sym c.word_at-2.ensures ∙ c.if-word_at-2.true) c.row_end.ensures

pub returns-then-word_at-3 : goal.returns-then-word_at-3
unfolding text read_line
returns-then-word_at-3 c = simp (sym c.word_at.ensures ∙ c.if-word_at.false, sym c.word_at-2.ensures ∙ c.if-word_at-2.false, sym c.word_at-3.ensures ∙ c.if-word_at-3.true) (c.site_end.ensures Command·.Timeout (λ t r p. p.1))

pub returns-then-word_at-4 : goal.returns-then-word_at-4
unfolding text read_line
returns-then-word_at-4 c = simp (sym c.word_at.ensures ∙ c.if-word_at.false, sym c.word_at-2.ensures ∙ c.if-word_at-2.false, sym c.word_at-3.ensures ∙ c.if-word_at-3.false, sym c.word_at-4.ensures ∙ c.if-word_at-4.true) (c.site_end-then-word_at-4.ensures Command·.Crash (λ t r p. p.1))

pub returns-then-word_at-5 : goal.returns-then-word_at-5
unfolding text read_line
returns-then-word_at-5 c = simp (sym c.word_at.ensures ∙ c.if-word_at.false, sym c.word_at-2.ensures ∙ c.if-word_at-2.false, sym c.word_at-3.ensures ∙ c.if-word_at-3.false, sym c.word_at-4.ensures ∙ c.if-word_at-4.false, sym c.word_at-5.ensures ∙ c.if-word_at-5.true) (c.site_end-then-word_at-5.ensures Command·.Recover (λ t r p. p.1))

pub returns : goal.returns
unfolding text read_line bad_line refused
returns c = simp (sym c.word_at.ensures ∙ c.if-word_at.false, sym c.word_at-2.ensures ∙ c.if-word_at-2.false, sym c.word_at-3.ensures ∙ c.if-word_at-3.false, sym c.word_at-4.ensures ∙ c.if-word_at-4.false, sym c.word_at-5.ensures ∙ c.if-word_at-5.false, c.at.ensures)
