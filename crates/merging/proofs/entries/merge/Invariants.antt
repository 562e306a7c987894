use mathlib.Core.Path.{◌≡◌}
use Rattle.choice.specs.Places.{stored_to}
use Rattle.merging.specs.laws.News.{gain}
use Rattle.merging.proofs.Loop.{entry_of}
use Rattle.merging.proofs.entries.merge.Given as goal

abbrev pub invariant-loop-k : goal.invariant-loop-k
invariant-loop-k l = (l.codes ≡ stored_to (entry_of l.said l.held) l.k l.initial.codes) × (l.rose ≡ stored_to (gain l.said l.held) l.k l.initial.rose)
