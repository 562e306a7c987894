use Prim.Native.Nat.{◌+◌, ◌*◌, ◌-◌, ◌≤◌}
use lib.ListN.{length}
use Rattle.command.specs.Commands.{read_command}
use Rattle.spelling.specs.Spelling.{command_line}
use Rattle.spelling.specs.WriteRead.{list_script}
use Rattle.write_lines.specs.laws.WriteLaws.{text_of}
use Rattle.spelling.specs.laws.LoopLaws.{Measuring}
use Rattle.write_lines.proofs.measure.Given as goal

abbrev pub invariant-loop-at : goal.invariant-loop-at
invariant-loop-at l = Measuring command_line (read_command l.list) (length l.list) (list_script l.list) (length (text_of l.list)) l.at l.length × (l.length ≤ 55 + 22 * l.at)

abbrev pub decreases-loop-at : goal.decreases-loop-at
decreases-loop-at l = length l.list - l.at
