use Rattle.std.proofs.Common.{sym}
use Rattle.std.proofs.lemmas.Result.{err_from_is_err_and}
use Rattle.rules.specs.Steps.{stepped}
use Rattle.member.specs.Steps.{refuse, taken_of, logged}
use Rattle.member_step.specs.laws.TakenLaws.{turn_refused, turn_handed}
use Rattle.member_step.proofs.steps.perform.Goals as goal

pub returns-in_err-step : goal.returns-in_err-step
unfolding refuse taken_of logged
returns-in_err-step c =
    let a = c.args in
    let p = err_from_is_err_and c.from_residual.result c.from_residual.ensures.1 in
    rw (p.1, p.2) (turn_refused a.member a.site a.order a.bytes.now _ (sym c.in_err-step.ensures))

pub returns : goal.returns
returns c =
    let a = c.args in
    rw c.new_log.ensures (turn_handed a.member a.site a.order a.bytes.now (stepped c.in_ok-step.step) (sym c.in_ok-step.ensures))
