use Rattle.std.proofs.Common.{sym, ◌∙◌}
use Rattle.std.proofs.lemmas.Result.{err_from_is_err_and}
use Rattle.rules.specs.Steps.{stepped}
use Rattle.play.specs.laws.Changes.{entry_of}
use Rattle.act.specs.laws.TurnLaws.{turn_refused, turn_taken}
use Rattle.act.proofs.acts.perform.Goals as goal

pub returns-in_err-step : goal.returns-in_err-step
returns-in_err-step c = λ at.
    let a = c.args in
    let p = err_from_is_err_and c.from_residual.result c.from_residual.ensures.1 in
    rw (p.1, p.2) (turn_refused a.command a.head a.site a.store.now at a.next c.requires.1 _ (sym c.in_err-step.ensures))

pub returns : goal.returns
returns c = λ at.
    let a = c.args in
    turn_taken a.command a.head a.site a.store.now at a.next c.requires.1 (stepped c.in_ok-step.step)
    (entry_of a.head at a.site c.enter.result) c.enter.new.store (sym c.in_ok-step.ensures)
    (λ records. c.enter.ensures _ at a.site records)
