use Rattle.std.proofs.Common.{rules}
use Rattle.std.specs.Prelude.{◌&&◌, leb}
use borrow.Author.Tests.{tests}
use Rattle.std.proofs.lemmas.Iterator.{YieldsList-from_slice, YieldsList-from_zip}
use Rattle.std.proofs.lemmas.Iterator.Consumers.{fold_from_yields_List}
use Rattle.validity.specs.laws.Limits.{folded_valid}
use Rattle.validity.proofs.limits.Limits.admit.Goals as goal

pub returns : goal.returns
returns c =
    folded_valid c.args.self.n c.args.self.most c.args.codes _ c.args.self.made (search rules) (search rules)
    (fold_from_yields_List _ (λ before p. before && leb p.0 p.1) _ _ c.fold.ensures.ran
    (YieldsList-from_zip (YieldsList-from_slice c.args.codes cc) (YieldsList-from_slice c.args.self.most cc)) (λ a x b q k. search (rules, tests)))
