use mathlib.Core.Path.{◌∙◌}
use Rattle.scan.specs.laws.WordLaws.{word_begins}
use Rattle.scan.proofs.word_at.Goals as goal

pub returns : goal.returns
returns c = c.starts_with.ensures.value ∙ word_begins c.args.word.now c.args.text.now c.args.at
