use Rattle.std.proofs.Common.{arith, ◌≡◌, refl, sym, ap, ◌∙◌, get_or, take, add-one}
use Rattle.std.proofs.lemmas.List.{get_or-take, length-take}
use Rattle.vector.specs.Codes.{is_outcome}
use Rattle.vector.specs.Vector.{lowest_outcome}
use Rattle.vector.specs.laws.VectorLaws.{lowest-found, lowest-none}
use Rattle.vector.proofs.vector.lowest_outcome.Goals as goal

pub loop-code-init : goal.loop-code-init
unfolding lowest_outcome
loop-code-init c = refl

pub returns-then-is_outcome : goal.returns-then-is_outcome
returns-then-is_outcome c =
    let k = c.loop-code.code-index in
    let at : get_or (take c.args.n c.args.codes) k 0 ≡ get_or c.args.codes k 0 = get_or-take c.args.n c.args.codes k 0 (omega (arith, length-take c.args.n c.args.codes)) in
    at ∙ sym (lowest-found k c.args.n c.args.codes (omega (arith, length-take c.args.n c.args.codes)) c.loop-code.invariant (sym (ap is_outcome at) ∙ sym c.is_outcome.ensures ∙ c.if-is_outcome.true))

pub loop-code-preserved : goal.loop-code-preserved
loop-code-preserved c =
    let k = c.loop-code.code-index in
    let at : get_or (take c.args.n c.args.codes) k 0 ≡ get_or c.args.codes k 0 = get_or-take c.args.n c.args.codes k 0 (omega (arith, length-take c.args.n c.args.codes)) in
    rw add-one (lowest-none k c.args.codes c.loop-code.invariant (sym (ap is_outcome at) ∙ sym c.is_outcome.ensures ∙ c.if-is_outcome.false))
