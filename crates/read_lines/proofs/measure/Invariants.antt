use lib.ListN.{length}
use Rattle.spelling.specs.Spelling.{command_bytes}
use Rattle.spelling.specs.LineReading.{read_line}
use Rattle.spelling.specs.Script.{spelled_by}
use Prim.Native.Nat.{◌+◌, ◌-◌, ◌≤◌}
use Rattle.spelling.specs.WriteRead.{text_script}
use Rattle.spelling.specs.laws.LoopLaws.{Measuring}
use Rattle.read_lines.proofs.measure.Given as goal

abbrev pub invariant-loop-at : goal.invariant-loop-at
invariant-loop-at l = Measuring command_bytes (read_line l.text) (length l.text) (text_script l.text l.from)
    (5 + length (spelled_by command_bytes (text_script l.text l.from).commands)) l.at l.length × (l.length ≤ l.at)

abbrev pub decreases-loop-at : goal.decreases-loop-at
decreases-loop-at l = length l.text - l.at
