use native.Mathlib.Omega.{arith}
use Rattle.std.proofs.Common.{ℕ, ◌≡◌, add-one}
use Rattle.text.specs.laws.PageLaws.{joined, nothing}
use Rattle.lines.specs.Lines.{site_lines}
use Rattle.lines.specs.laws.LineLaws.{SmallSizes, small-sizes, site-codes}
use Rattle.lines.proofs.lines.put_sites.Goals as goal

pub loop-k-init : goal.loop-k-init
unfolding site_lines
loop-k-init c = (omega arith, nothing _)

pub site-requires : goal.site-requires
site-requires c = let s : SmallSizes _ = small-sizes _ c.requires.0 in omega arith

pub put_site-requires : goal.put_site-requires
put_site-requires c = let s : SmallSizes _ = small-sizes _ c.requires.0 in
    (omega arith, omega arith, rw c.site.ensures (site-codes _ c.requires.0 _ c.loop-k-test.true), omega arith)

pub loop-k-preserved : goal.loop-k-preserved
unfolding site_lines
loop-k-preserved c = (omega arith, rw add-one (joined c.loop-k.invariant.1 (rw c.site.ensures at c.put_site.ensures.put)))

pub returns : goal.returns
returns c = let e : ◌≡◌ {A = ℕ} c.loop-k.k c.args.world.n = omega arith in
    let s : SmallSizes _ = small-sizes _ c.requires.0 in record { put = rw e at c.loop-k.invariant.1; upper_bound = omega arith }
