use Rattle.std.proofs.Common.{rules}
use borrow.Author.Tests.{tests}
use Rattle.std.proofs.lemmas.Iterator.{YieldsList-from_slice}
use Rattle.std.proofs.lemmas.Iterator.Search.{all_from_yields_List}
use Rattle.inside.proofs.Parts.{all_at_most}
use Rattle.inside.proofs.at_most.Goals as goal

pub returns : goal.returns
returns c = all_at_most _ _ _ _ _ c.requires (all_from_yields_List _ _ _ _ c.all.ensures.ran (YieldsList-from_slice _ c.iter.ensures.rest) (λ x b q k. search (rules, tests)))
