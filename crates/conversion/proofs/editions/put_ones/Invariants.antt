use Rattle.std.proofs.Common.{◌≡◌, ◌+◌, replicate}
use Rattle.text.specs.Page.{Put}
use Rattle.conversion.proofs.editions.put_ones.Given as goal

abbrev pub invariant-loop : goal.invariant-loop
invariant-loop l = (l.page.at ≡ l.initial.page.at + l.counter) × Put l.initial.page (replicate l.counter 1) l.page
