use native.Mathlib.Omega.{arith}
use mathlib.Core.Path.{ap, sym, ◌∙◌, ◌≡◌}
use mathlib.Core.Bool.{true, false}
use borrow.Author.Tests.{lt-ltb, le-ltb, not-true, not-false}
use Rattle.bits.specs.Bits.{only_site}
use Rattle.world.specs.Sizes.{sizes_number}
use Rattle.world.specs.laws.SizesLaws.{sites_fit_lem}
use Rattle.world.proofs.check.Sizes.check.Goals as goal

pub returns-then-not-sites_fit : goal.returns-then-not-sites_fit
unfolding sizes_number
returns-then-not-sites_fit c = simp (← c.sites_fit.ensures, c.if-not-sites_fit.true)

pub measured-measures-requires : goal.measured-measures-requires
measured-measures-requires c = let fit = sites_fit_lem _ (sym c.sites_fit.ensures ∙ c.if-not-sites_fit.false) in (omega arith, fit.high)

pub returns-then-not-measures : goal.returns-then-not-measures
unfolding sizes_number
returns-then-not-measures c = let v : c.measured-measures.result.valid ≡ false = not-true _ c.if-not-measures.true in
    simp (← c.sites_fit.ensures, c.if-not-sites_fit.false, ← (ap (λ m. m.valid) c.measured-measures.ensures.weighed), ← (ap (λ m. m.total) c.measured-measures.ensures.weighed), ← (ap (λ m. m.largest) c.measured-measures.ensures.weighed), v)

pub quorums_fit-requires : goal.quorums_fit-requires
quorums_fit-requires c = (c.measured-measures.ensures.bounded.0, omega (arith, c.measured-measures.ensures.bounded.1))

pub returns-then-not-quorums_fit : goal.returns-then-not-quorums_fit
unfolding sizes_number
returns-then-not-quorums_fit c = let v : c.measured-measures.result.valid ≡ true = not-false _ c.if-not-measures.false in
    simp (← c.sites_fit.ensures, c.if-not-sites_fit.false, ← (ap (λ m. m.valid) c.measured-measures.ensures.weighed), ← (ap (λ m. m.total) c.measured-measures.ensures.weighed), ← (ap (λ m. m.largest) c.measured-measures.ensures.weighed), v, ← c.quorums_fit.ensures, c.if-not-quorums_fit.true)

pub only_site-requires : goal.only_site-requires
only_site-requires c = (sites_fit_lem _ (sym c.sites_fit.ensures ∙ c.if-not-sites_fit.false)).high

pub returns-then-self-only_site : goal.returns-then-self-only_site
unfolding sizes_number only_site
returns-then-self-only_site c = let v : c.measured-measures.result.valid ≡ true = not-false _ c.if-not-measures.false in
    simp (← c.sites_fit.ensures, c.if-not-sites_fit.false, ← (ap (λ m. m.valid) c.measured-measures.ensures.weighed), ← (ap (λ m. m.total) c.measured-measures.ensures.weighed), ← (ap (λ m. m.largest) c.measured-measures.ensures.weighed), v, ← c.quorums_fit.ensures, c.if-not-quorums_fit.false, ← c.only_site.ensures, lt-ltb _ _ c.if-self-only_site.true)

pub returns : goal.returns
unfolding sizes_number only_site
returns c = let v : c.measured-measures.result.valid ≡ true = not-false _ c.if-not-measures.false in
    simp (← c.sites_fit.ensures, c.if-not-sites_fit.false, ← (ap (λ m. m.valid) c.measured-measures.ensures.weighed), ← (ap (λ m. m.total) c.measured-measures.ensures.weighed), ← (ap (λ m. m.largest) c.measured-measures.ensures.weighed), v, ← c.quorums_fit.ensures, c.if-not-quorums_fit.false, ← c.only_site.ensures, le-ltb _ _ c.if-self-only_site.false)
