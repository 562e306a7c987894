use Prim.Native.Nat.{◌+◌, ◌-◌, ◌^◌, ◌≤◌, ◌<◌}
use mathlib.Core.Path.{◌≡◌}
use lib.ListN.{length}
use Rattle.scan.specs.Scan.{digits_from}
use Rattle.scan.proofs.digits_from.Given as goal

abbrev pub invariant-loop : goal.invariant-loop
invariant-loop l = (l.next ≤ length l.text) × (l.value < 10 ^ (l.counter + 1)) × (digits_from (4 - l.counter) l.text l.next l.value ≡ digits_from 4 l.text l.at l.first)
