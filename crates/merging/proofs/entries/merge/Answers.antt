use borrow.Author.Rules.{rules}
use native.Mathlib.Omega.{arith}
use native.Mathlib.Numerals.{add-one}
use Prim.Native.Nat.{ℕ}
use mathlib.Core.Path.{◌≡◌, refl}
use lib.ListN.{get_or, set, replicate}
use Rattle.choice.specs.Places.{stored_to}
use Rattle.choice.specs.laws.Stores.{stored_on}
use Rattle.merging.specs.laws.News.{gain}
use Rattle.merging.proofs.Loop.{leaves-on, entry_of, marks, left-is-merging}
use Rattle.merging.proofs.entries.merge.Goals as goal

pub loop-k-init : goal.loop-k-init
unfolding stored_to
loop-k-init c = (refl, refl)

pub loop-k-preserved : goal.loop-k-preserved
unfolding entry_of gain
loop-k-preserved c = let l = c.loop-k in
    let a = c.args in (
      rw add-one (stored_on (entry_of a.said a.held) l.k c.higher-in-loop-k.result _ l.codes l.invariant.0 c.higher-in-loop-k.ensures),
      rw add-one (stored_on (gain a.said a.held) l.k c.rise-in-loop-k.result _ l.rose l.invariant.1 c.rise-in-loop-k.ensures.0),
    )

pub returns : goal.returns
unfolding entry_of gain marks
returns c = let l = c.loop-k in
    let s = c in
    let a = s.args in
    let e : ◌≡◌ {A = ℕ} l.k a.n = omega arith in
    let codes = leaves-on (entry_of a.said a.held) a.n a.own a.sender (get_or a.held a.own 0) a.held l.k c.higher.result l.codes l.invariant.0 e c.higher.ensures in
    let rose = leaves-on (gain a.said a.held) a.n a.own a.sender 0 (replicate 16 0) l.k c.rise.result l.rose l.invariant.1 e c.rise.ensures.0 in
    left-is-merging a.n a.own a.sender a.said a.held s.requires.0 s.requires.1 s.requires.2 (search rules) (set l.codes a.own (get_or a.held a.own 0)) (set l.rose a.own 0) c.total.result codes rose c.total.ensures
