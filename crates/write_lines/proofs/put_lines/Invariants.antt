use Prim.Native.Nat.{◌-◌}
use lib.ListN.{length}
use mathlib.Core.Path.{◌≡◌}
use Rattle.command.specs.Commands.{read_command}
use Rattle.spelling.specs.Spelling.{command_line}
use Rattle.spelling.specs.Script.{spelled_by}
use Rattle.spelling.specs.WriteRead.{list_script}
use Rattle.spelling.specs.laws.LoopLaws.{Putting}
use Rattle.write_lines.proofs.put_lines.Given as goal

abbrev pub invariant-loop-at : goal.invariant-loop-at
invariant-loop-at l = Putting command_line (read_command l.list) (length l.list) (spelled_by command_line (list_script l.list).commands) l.initial.page.buffer.now l.initial.page.at l.page.buffer.now l.at l.page.at × (l.page.buffer.ghost_name ≡ l.initial.page.buffer.ghost_name)

abbrev pub decreases-loop-at : goal.decreases-loop-at
decreases-loop-at l = length l.list - l.at
