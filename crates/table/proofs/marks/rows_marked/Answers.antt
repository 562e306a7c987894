use Rattle.std.proofs.Common.{rules, arith, ◌≡◌, ◌∙◌, ◌+◌, ◌*◌, ap, get_or, length-drop, take, drop, true, eqb}
use Rattle.std.proofs.lemmas.List.{get_or-drop}
use Rattle.std.specs.Prelude.{IsTrue, ◌↔◌, All}
use Rattle.choice.specs.laws.Chains.{all-first}
use Rattle.choice.specs.laws.Stores.{all_same}
use Rattle.table.specs.laws.Marks.{rows_marked}
use Rattle.table.proofs.marks.rows_marked.Goals as goal

pub returns : goal.returns
unfolding rows_marked
returns c =
    let e : IsTrue c.all.result ↔ All (λ x. eqb x 1 ≡ true) (take c.args.count (drop (1024 * c.args.c) c.args.marks.now)) = search rules in
    let first = 1024 * c.args.c in
    let marks = c.args.marks.now in
    all-first (λ x. eqb x 1) (drop first marks) c.args.count c.all.result (omega (arith, length-drop first marks)) e
    ∙ all_same (λ i. eqb (get_or (drop first marks) i 0) 1) (λ i. eqb (get_or marks (first + i) 0) 1) c.args.count (λ i h. ap (λ x. eqb x 1) (get_or-drop first marks i 0))
