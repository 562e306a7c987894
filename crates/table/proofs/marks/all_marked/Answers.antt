use Rattle.std.specs.Prelude.{ℕ, Bool, refl, get_or}
use Rattle.std.proofs.Common.{rules}
use borrow.Author.Tests.{tests}
use Rattle.std.proofs.lemmas.Iterator.{YieldsList-from_range}
use Rattle.std.proofs.lemmas.Iterator.Search.{all_from_yields_List}
use Rattle.choice.specs.Places.{all_below}
use Rattle.choice.specs.laws.EachPlace.{all_numbered}
use Rattle.table.specs.laws.Marks.{rows_marked, all_marked}
use Rattle.table.proofs.marks.all_marked.Goals as goal

pub returns : goal.returns
unfolding all_marked all_below
returns c =
    let test : ℕ → Bool = λ k. rows_marked c.args.marks.now k (get_or c.args.rows k 0) in
    all_numbered test 16 (λ k. all_below test k) _ refl (λ _ _. refl)
    (all_from_yields_List test _ _ _ c.all.ensures.ran (YieldsList-from_range 0 16 16 refl refl) (λ x b q k. search (rules, tests)))
