use lib.ListN.{length}
use mathlib.Core.Path.{◌≡◌}
use Rattle.spelling.specs.Spelling.{command_bytes}
use Rattle.spelling.specs.LineReading.{read_line}
use Rattle.spelling.specs.Script.{spelled_by}
use Prim.Native.Nat.{◌-◌}
use Rattle.spelling.specs.WriteRead.{text_script}
use Rattle.spelling.specs.laws.LoopLaws.{Putting}
use Rattle.read_lines.proofs.put_list.Given as goal

abbrev pub invariant-loop-at : goal.invariant-loop-at
invariant-loop-at l = Putting command_bytes (read_line l.text) (length l.text) (spelled_by command_bytes (text_script l.text l.from).commands) l.initial.page.buffer.now l.initial.page.at l.page.buffer.now l.at l.page.at × (l.page.buffer.ghost_name ≡ l.initial.page.buffer.ghost_name)

abbrev pub decreases-loop-at : goal.decreases-loop-at
decreases-loop-at l = length l.text - l.at
