use Rattle.command.specs.Commands.{refused}
use Rattle.spelling.specs.LineReading.{bad_line, row_end, site_end}
use mathlib.Core.Path.{sym, ◌∙◌}
use Rattle.text.specs.Text.{text}
use Rattle.scan.specs.laws.ReadBack.{number_spelt, named_spelt}
use Rattle.line_ends.proofs.row_end.Goals as goal

pub returns-in_default : goal.returns-in_default
unfolding row_end bad_line refused
returns-in_default c = simp (sym c.read_number.ensures ∙ c.in_default.is, c.at.ensures)

pub read_named-requires : goal.read_named-requires
read_named-requires c = (number_spelt _ _ _ _ (sym c.read_number.ensures ∙ c.in-Some.is)).inside

pub returns-in_default-read_named : goal.returns-in_default-read_named
unfolding text row_end site_end bad_line refused
returns-in_default-read_named c = simp (sym c.read_number.ensures ∙ c.in-Some.is, sym c.read_named.ensures ∙ c.in_default-read_named.is, c.at-in_default-read_named.ensures)

pub end_line-requires : goal.end_line-requires
end_line-requires c = (named_spelt _ _ _ _ _ (sym c.read_named.ensures ∙ c.in-Some-read_named.is)).inside

pub returns : goal.returns
unfolding text row_end site_end
returns c = simp (sym c.read_number.ensures ∙ c.in-Some.is, sym c.read_named.ensures ∙ c.in-Some-read_named.is) c.end_line.ensures
