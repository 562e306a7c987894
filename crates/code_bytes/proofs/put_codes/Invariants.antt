use Rattle.std.proofs.Common.{◌≡◌}
use Rattle.code_bytes.specs.CodeBytes.{put_codes}
use Rattle.code_bytes.proofs.put_codes.Given as goal

abbrev pub invariant-loop-k : goal.invariant-loop-k
invariant-loop-k l = l.bytes ≡ put_codes l.k l.initial.bytes l.at l.codes
