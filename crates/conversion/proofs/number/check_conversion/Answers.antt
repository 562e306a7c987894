use Rattle.std.proofs.lemmas.Result.{err_from_is_err_and}
use Rattle.refusals.specs.laws.RefusalLaws.{number-some}
use Rattle.conversion.specs.laws.NumberLaws.{convert_edition}
use Rattle.conversion.proofs.number.check_conversion.Goals as goal

pub returns-in_err-check_edition : goal.returns-in_err-check_edition
returns-in_err-check_edition c =
    let p = err_from_is_err_and c.from_residual.result c.from_residual.ensures.1 in
    rw (p.1, p.2) (convert_edition _ _ c.in_err-check_edition.ensures (number-some _))
