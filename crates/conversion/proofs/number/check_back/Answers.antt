use native.Mathlib.Omega.{arith}
use Rattle.std.proofs.Common.{refl, sym, ap, ◌∙◌}
use Rattle.std.proofs.lemmas.Result.{err_from_is_err_and}
use Rattle.refusals.specs.laws.RefusalLaws.{number-some}
use Rattle.conversion.specs.Conversion.{all_one}
use Rattle.conversion.specs.laws.NumberLaws.{accepted-high, back-header, back-ones}
use Rattle.conversion.proofs.number.check_back.Goals as goal

pub returns-in_err-sizes : goal.returns-in_err-sizes
returns-in_err-sizes c =
    let p = err_from_is_err_and c.from_residual.result c.from_residual.ensures.1 in
    rw (p.1, p.2) (back-header _ _ c.in_err-sizes.ensures.number (number-some _))

pub all_one-requires : goal.all_one-requires
all_one-requires c =
    let good = c.in_ok-sizes.ensures in omega (arith, ap (λ s. s.n) good.ok, accepted-high c.args.list.now (sym good.number))

pub returns-then-not-all_one : goal.returns-then-not-all_one
returns-then-not-all_one c =
    let good = c.in_ok-sizes.ensures in
    back-ones c.args.list.now _ _ _ (sym good.number) refl refl
    (sym c.if-not-all_one.true ∙ c.all_one.ensures ∙ ap (λ s. all_one s.n s.weights) good.ok)

pub returns : goal.returns
returns c =
    let good = c.in_ok-sizes.ensures in
    back-ones c.args.list.now _ _ _ (sym good.number) refl refl
    (sym c.if-not-all_one.false ∙ c.all_one.ensures ∙ ap (λ s. all_one s.n s.weights) good.ok)
