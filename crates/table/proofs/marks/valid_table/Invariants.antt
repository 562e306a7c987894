use Rattle.std.proofs.Common.{get_or}
use Rattle.table.specs.laws.LoopLaws.{Marked}
use Rattle.table.proofs.marks.valid_table.Given as goal

abbrev pub invariant-loop-x : goal.invariant-loop-x
invariant-loop-x l = Marked (λ c. get_or l.rows c 0) l.held l.marks l.x-index
