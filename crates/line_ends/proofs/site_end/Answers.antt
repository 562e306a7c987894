use Rattle.command.specs.Commands.{refused}
use Rattle.spelling.specs.LineReading.{bad_line, site_end}
use mathlib.Core.Path.{sym, ◌∙◌}
use Rattle.scan.specs.laws.ReadBack.{number_spelt}
use Rattle.line_ends.proofs.site_end.Goals as goal

pub returns-in_default : goal.returns-in_default
unfolding site_end bad_line refused
returns-in_default g c = λ make made. simp (sym c.read_number.ensures ∙ c.in_default.is, c.at.ensures)

pub end_line-requires : goal.end_line-requires
end_line-requires g c = (number_spelt _ _ _ _ (sym c.read_number.ensures ∙ c.in-Some.is)).inside

pub returns : goal.returns
unfolding site_end
returns g c = λ make made. simp (sym c.read_number.ensures ∙ c.in-Some.is) (rw (made _ _ c.command.ensures) at c.end_line.ensures)
