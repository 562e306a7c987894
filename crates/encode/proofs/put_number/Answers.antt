use Rattle.std.proofs.Common.{rules, arith}
use Rattle.encode.proofs.Pasted.{part_put}
use Rattle.encode.proofs.put_number.Goals as goal

pub returns : goal.returns
returns c = part_put _ _ _ _ _ c.requires (search rules) (λ i h. c.loop-byte.invariant.low i (omega arith))
