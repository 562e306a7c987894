use native.Mathlib.Omega.{arith}
use native.Mathlib.Numerals.{add-one}
use Prim.Native.Nat.{ℕ}
use mathlib.Core.Bool.{true}
use mathlib.Core.Path.{◌≡◌, refl, sym, subst, ◌∙◌}
use lib.ListN.{length, get_or}
use Rattle.table.specs.laws.Marks.{with_mark}
use Rattle.table.specs.laws.LoopLaws.{Marked, mark_on, mark_fails, none_marked, marks_decide}
use Rattle.table.proofs.marks.valid_table.Goals as goal

pub loop-x-init : goal.loop-x-init
loop-x-init c = none_marked (λ j. get_or c.args.rows j 0) c.args.held.now _ refl

pub slice_bounds-mark-end : goal.slice_bounds-mark-end
slice_bounds-mark-end c = sym c.loop-x.invariant.whole

pub mark-requires : goal.mark-requires
mark-requires c = c.loop-x.invariant.whole

pub returns-then-not-mark : goal.returns-then-not-mark
returns-then-not-mark c = let a = c.args in
    let l = c.loop-x in
    let m = c.mark in
    sym (mark_fails (λ j. get_or a.rows j 0) a.held.now l.marks l.x-index (get_or a.held.now l.x-index 0) l.invariant
    c.loop-x-test.true refl (sym m.ensures.tells ∙ c.if-not-mark.true))

pub loop-x-preserved : goal.loop-x-preserved
loop-x-preserved c = let a = c.args in
    let l = c.loop-x in
    let m = c.mark in
    let new : m.result ≡ true = c.if-not-mark.false in
    let marks-now : m.new.marks ≡ with_mark l.marks (get_or a.held.now l.x-index 0) = m.ensures.leaves ∙ rw new in
    rw (add-one, marks-now) (mark_on (λ j. get_or a.rows j 0) a.held.now l.marks l.x-index (get_or a.held.now l.x-index 0) l.invariant
    c.loop-x-test.true refl (sym m.ensures.tells ∙ new))

pub slice_bounds-all_marked-end : goal.slice_bounds-all_marked-end
slice_bounds-all_marked-end c = sym c.loop-x.invariant.whole

pub all_marked-requires : goal.all_marked-requires
all_marked-requires c = (c.loop-x.invariant.whole, c.requires)

pub returns : goal.returns
returns c = let a = c.args in
    let l = c.loop-x in
    let e : ◌≡◌ {A = ℕ} l.x-index (length a.held.now) = omega arith in
    c.all_marked.ensures
    ∙ sym (marks_decide (λ j. get_or a.rows j 0) a.held.now l.marks c.requires (subst (Marked (λ j. get_or a.rows j 0) a.held.now l.marks) e l.invariant))
