use Rattle.std.proofs.lemmas.Result.{err_from_is_err_and}
use mathlib.Core.Path.{sym, ◌∙◌}
use Rattle.refusals.specs.laws.RefusalLaws.{number-some}
use Rattle.header.specs.Headers.{header_sizes, first_sizes}
use Rattle.header.specs.laws.HeaderLaws.{first_short, first-whole}
use Rattle.header.proofs.check.check_first.Goals as goal

pub returns-in_err-check_length-clause-number : goal.returns-in_err-check_length-clause-number
returns-in_err-check_length-clause-number c =
    let p = err_from_is_err_and c.from_residual.result c.from_residual.ensures.1 in
    let e = c.in_err-check_length.ensures in
    rw (p.1, p.2) (e ∙ first_short _ (λ z. number-some _ (e ∙ z)))

pub returns-in_err-check-clause-number : goal.returns-in_err-check-clause-number
unfolding first_sizes header_sizes
returns-in_err-check-clause-number c =
    let p = err_from_is_err_and c.from_residual-in_err-check.result c.from_residual-in_err-check.ensures.1 in
    rw (p.1, p.2) (rw (c.sizes.ensures, c.even_weights.ensures, c.first_header-header.ensures) at c.in_err-check.ensures ∙ first-whole _ (sym c.in_ok-check_length.ensures))

pub returns-clause-number : goal.returns-clause-number
unfolding first_sizes header_sizes
returns-clause-number c =
    rw (c.sizes.ensures, c.even_weights.ensures, c.first_header-header.ensures) at c.in_ok-check.ensures ∙ first-whole _ (sym c.in_ok-check_length.ensures)
