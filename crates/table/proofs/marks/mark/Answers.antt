use borrow.Author.Tests.{lt-ltb, le-ltb, eq-eqb, ne_eqb}
use native.Mathlib.Nat.{div-add-mod, mod-lt}
use native.Mathlib.Omega.{arith}
use Prim.Native.Nat.{◌-◌, ◌/◌, ◌%◌, ◌≤◌, ◌<◌}
use mathlib.Core.Path.{refl, sym, ◌∙◌}
use mathlib.Core.Bool.{false}
use lib.Dec.{ltb}
use lib.ListN.{get_or}
use Rattle.choice.specs.Choice.{both}
use Rattle.choice.specs.laws.ChoiceLaws.{both_off}
use Rattle.table.specs.laws.Marks.{is_new, with_mark}
use Rattle.table.specs.laws.LoopLaws.{new_row, mark-row}
use Rattle.table.proofs.marks.mark.Goals as goal

pub returns-then-x-eq0 : goal.returns-then-x-eq0
unfolding is_new with_mark
returns-then-x-eq0 c = record { tells = rw c.if-x-eq0.true; leaves = rw c.if-x-eq0.true }

pub returns-then-x-gt16384 : goal.returns-then-x-gt16384
returns-then-x-gt16384 c = let a = c.args in
    let left : (a.x - 1) % 1024 < 1024 = mod-lt (a.x - 1) (omega arith) in
    let past : 16 ≤ (a.x - 1) / 1024 = omega (arith, div-add-mod (a.x - 1) 1024, left) in
    record { tells = sym (new_row (λ j. get_or a.rows.now j 0) a.marks.now a.x c.if-x-eq0.false ∙ rw (le-ltb ((a.x - 1) / 1024) 16 past)); leaves = refl }

pub returns-then-rows-y : goal.returns-then-rows-y
returns-then-rows-y c = let a = c.args in
    let beyond = le-ltb ((a.x - 1) % 1024) (get_or a.rows.now ((a.x - 1) / 1024) 0) (rw c.from-y.ensures at c.if-rows-y.true) in
    record { tells = sym (new_row (λ j. get_or a.rows.now j 0) a.marks.now a.x c.if-x-eq0.false ∙ rw (both_off _ _ beyond)); leaves = refl }

pub returns-then-marks-y-ne0 : goal.returns-then-marks-y-ne0
returns-then-marks-y-ne0 c = let a = c.args in
    let marked = ne_eqb (get_or a.marks.now (a.x - 1) 0) 0 (rw c.from-y.ensures at c.if-marks-y-ne0.true) in record {
      tells = sym (new_row (λ j. get_or a.rows.now j 0) a.marks.now a.x c.if-x-eq0.false
          ∙ rw marked (both_off (both (ltb ((a.x - 1) / 1024) 16) (ltb ((a.x - 1) % 1024) (get_or a.rows.now ((a.x - 1) / 1024) 0))) false refl));
      leaves = refl;
    }

pub returns : goal.returns
returns c = let a = c.args in
    let some = c.if-x-eq0.false in
    let left : (a.x - 1) % 1024 < 1024 = mod-lt (a.x - 1) (omega arith) in
    let inside : (a.x - 1) / 1024 < 16 = omega (arith, div-add-mod (a.x - 1) 1024, left) in record {
      tells = sym (new_row (λ j. get_or a.rows.now j 0) a.marks.now a.x some
          ∙ rw (
            lt-ltb ((a.x - 1) / 1024) 16 inside,
            lt-ltb ((a.x - 1) % 1024) (get_or a.rows.now ((a.x - 1) / 1024) 0) (rw c.from-y.ensures at c.if-rows-y.false),
            eq-eqb (get_or a.marks.now (a.x - 1) 0) 0 (rw c.from-y.ensures at c.if-marks-y-ne0.false),
          ));
      leaves = rw c.from-y.ensures (sym (mark-row a.marks.now a.x some));
    }
