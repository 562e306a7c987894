use Prim.Native.Nat.{◌+◌, ◌*◌, ◌≤◌}
use Rattle.text.specs.Page.{Put}
use Rattle.lines.specs.Lines.{site_lines}
use Rattle.lines.proofs.lines.put_sites.Given as goal

abbrev pub invariant-loop-k : goal.invariant-loop-k
invariant-loop-k l = (l.page.at ≤ l.initial.page.at + 54 * l.k) × Put l.initial.page (site_lines l.k l.world) l.page
