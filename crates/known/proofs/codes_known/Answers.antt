use Rattle.std.proofs.Common.{rules}
use Rattle.std.specs.Prelude.{◌&&◌, leb, take}
use borrow.Author.Tests.{tests}
use Rattle.std.proofs.lemmas.Iterator.{YieldsList-from_slice}
use Rattle.std.proofs.lemmas.Iterator.Consumers.{fold_from_yields_List}
use Rattle.known.proofs.Folded.{folded_known}
use Rattle.known.proofs.codes_known.Goals as goal

pub returns : goal.returns
returns c =
    folded_known c.args.n c.args.codes _ (search rules)
    (fold_from_yields_List _ (λ before x. before && leb x 5) _ _ c.fold.ensures.ran (YieldsList-from_slice (take c.args.n c.args.codes) (search rules)) (λ a x b q k. search (rules, tests)))
