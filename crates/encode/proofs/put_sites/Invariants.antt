use Rattle.std.proofs.Common.{◌≡◌}
use Rattle.layout.specs.Layout.{put_sites}
use Rattle.encode.proofs.put_sites.Given as goal

abbrev pub invariant-loop-k : goal.invariant-loop-k
invariant-loop-k l = l.bytes ≡ put_sites l.k l.initial.bytes l.world
