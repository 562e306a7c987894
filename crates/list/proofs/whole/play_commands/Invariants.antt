use Rattle.list.specs.laws.Loop.{Underway}
use Rattle.list.specs.Play.{play_list}
use lib.ListN.{length}
use mathlib.Core.Path.{◌≡◌}
use Prim.Native.Nat.{◌-◌}
use Rattle.list.proofs.whole.play_commands.Given as goal

abbrev pub invariant-loop-at : goal.invariant-loop-at
invariant-loop-at l = Underway (play_list l.initial.store l.list) l.world l.store l.list l.at l.events × (length l.store ≡ length l.initial.store)

abbrev pub decreases-loop-at : goal.decreases-loop-at
decreases-loop-at l = length l.list - l.at
