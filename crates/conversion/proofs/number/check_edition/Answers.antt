use mathlib.Core.Path.{sym, ◌∙◌}
use Rattle.std.proofs.lemmas.Result.{err_from_is_err_and}
use Rattle.conversion.specs.Conversion.{edition_number}
use Rattle.conversion.proofs.number.check_edition.Goals as goal

pub returns-then-is_second : goal.returns-then-is_second
unfolding edition_number
returns-then-is_second c = rw (sym c.is_second.ensures ∙ c.if-is_second.true) c.check_back.ensures

pub returns-in_err-check_first : goal.returns-in_err-check_first
unfolding edition_number
returns-in_err-check_first c =
    let p = err_from_is_err_and c.from_residual.result c.from_residual.ensures.1 in
    rw (p.1, p.2, sym c.is_second.ensures ∙ c.if-is_second.false) c.in_err-check_first.ensures.number

pub returns : goal.returns
unfolding edition_number
returns c = rw (sym c.is_second.ensures ∙ c.if-is_second.false) c.in_ok-check_first.ensures.number
