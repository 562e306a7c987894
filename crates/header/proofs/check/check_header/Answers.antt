use Rattle.std.proofs.lemmas.Result.{err_from_is_err_and}
use mathlib.Core.Path.{ap, sym, ◌∙◌}
use Rattle.refusals.specs.laws.RefusalLaws.{number-some}
use Rattle.header.specs.Headers.{header_sizes}
use Rattle.header.specs.laws.HeaderLaws.{header-short, header_cut, header-whole}
use Rattle.header.proofs.check.check_header.Goals as goal

pub returns-in_err-check_length-clause-number : goal.returns-in_err-check_length-clause-number
returns-in_err-check_length-clause-number c =
    let p = err_from_is_err_and c.from_residual.result c.from_residual.ensures.1 in
    let e = c.in_err-check_length.ensures in
    rw (p.1, p.2) (e ∙ header-short _ (λ z. number-some _ (e ∙ z)))

pub returns-then-is_cut-clause-number : goal.returns-then-is_cut-clause-number
returns-then-is_cut-clause-number c = header_cut _ (sym c.in_ok-check_length.ensures) (sym c.is_cut.ensures ∙ c.if-is_cut.true)

pub returns-in_err-check-clause-number : goal.returns-in_err-check-clause-number
unfolding header_sizes
returns-in_err-check-clause-number c =
    let p = err_from_is_err_and c.from_residual-in_err-check.result c.from_residual-in_err-check.ensures.1 in
    rw (p.1, p.2) (rw (c.sizes-sizes.ensures, c.read_weights.ensures, c.read_header-header.ensures) at c.in_err-check.ensures
    ∙ header-whole _ (sym c.in_ok-check_length.ensures) (sym c.is_cut.ensures ∙ c.if-is_cut.false))

pub returns-clause-number : goal.returns-clause-number
unfolding header_sizes
returns-clause-number c =
    rw (c.sizes-sizes.ensures, c.read_weights.ensures, c.read_header-header.ensures) at c.in_ok-check.ensures
    ∙ header-whole _ (sym c.in_ok-check_length.ensures) (sym c.is_cut.ensures ∙ c.if-is_cut.false)
