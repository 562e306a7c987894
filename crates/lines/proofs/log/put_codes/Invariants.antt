use Prim.Native.Nat.{◌+◌, ◌≤◌}
use Rattle.text.specs.Page.{Put}
use Rattle.lines.specs.Lines.{code_digits}
use Rattle.lines.proofs.log.put_codes.Given as goal

abbrev pub invariant-loop-code : goal.invariant-loop-code
invariant-loop-code l = (l.page.at ≤ l.initial.page.at + l.code-index) × Put l.initial.page (code_digits l.code-index l.fn.codes) l.page
