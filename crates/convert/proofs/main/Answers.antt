use native.Mathlib.Omega.{arith}
use mathlib.Core.Path.{sym}
use lib.ListN.{length-take}
use lib.Seq.{length-take-le}
use Rattle.spelled_out.specs.laws.ShownLaws.{answer_told}
use Rattle.convert.proofs.main.Goals as goal

pub shown-k-requires : goal.shown-k-requires
shown-k-requires c = rw (answer_told _ _ c.map_err.ensures.cases) (omega (arith, c.carry-spelled.ensures.length_in_bounds.0), omega (arith, simp length-take at c.carry-spelled.ensures.length_in_bounds.1), omega arith)

pub slice_bounds-output-end : goal.slice_bounds-output-end
slice_bounds-output-end c = omega (arith, c.shown-k.ensures.upper_bound)

pub slice_bounds-write_all-end : goal.slice_bounds-write_all-end
slice_bounds-write_all-end c = sym (length-take-le c.shown-k.result c.shown-k.new.buffer (omega (arith, c.shown-k.ensures.upper_bound)))
