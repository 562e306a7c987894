use native.Mathlib.Omega.{arith}
use mathlib.Core.Path.{sym}
use Rattle.choice.specs.laws.ChoiceLaws.{pick-on, pick_off}
use Rattle.merging.specs.Merging.{rises, merge_entry}
use Rattle.merging.specs.laws.Tops.{above-rises, not_above}
use Rattle.merging.proofs.entry.higher.Goals as goal

pub returns-then-top-said : goal.returns-then-top-said
unfolding merge_entry
returns-then-top-said c = let a = c.args in
    sym (pick-on (rises a.held a.said) a.said a.held (above-rises a.held a.said c.top.result (omega arith) c.top.ensures c.if-top-said.true))

pub returns-else-top-said : goal.returns-else-top-said
unfolding merge_entry
returns-else-top-said c = let a = c.args in
    sym (pick_off (rises a.held a.said) a.said a.held (not_above a.held a.said c.top.result (omega arith) c.top.ensures c.if-top-said.false))
