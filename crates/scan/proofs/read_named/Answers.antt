use mathlib.Core.Path.{sym, ◌∙◌}
use Rattle.scan.specs.Scan.{named_at}
use Rattle.scan.proofs.read_named.Goals as goal

pub returns-then-not-word_at : goal.returns-then-not-word_at
unfolding named_at
returns-then-not-word_at c = simp (sym c.word_at.ensures ∙ c.if-not-word_at.true)

pub returns : goal.returns
unfolding named_at
returns c = simp (sym c.word_at.ensures ∙ c.if-not-word_at.false) c.read_number.ensures
