use native.Mathlib.Omega.{arith}
use lib.ListN.{length-append}
use Rattle.text.specs.Text.{decimal}
use Rattle.text.proofs.decimal_length.Goals as goal

pub returns : goal.returns
unfolding decimal
returns c = (simp length-append (omega arith), omega arith)
