-- Where all sites stand in a round of a quiet day, after p commands and q replies, and between rounds.
use Rattle.std.specs.Prelude.{ℕ, suc, ◌≤◌, ◌<◌, false, ◌≡◌, ltb, leb, eqb}
use Rattle.std.proofs.Math.Path.{refl}
use Rattle.std.proofs.Common.{arith}
use borrow.Author.Tests.{lt-ltb, ltb-true, le-leb, lt-leb, leb-true, leb-false, ne_eqb}
use Rattle.choice.specs.Choice.{pick}
use Rattle.choice.specs.laws.Cases.{by_test}
use Rattle.site.specs.declared.Site.{Site}
use Rattle.site.specs.Fields.{blank_site}
use Rattle.quiet_run.proofs.laws.Stages.{Stage, Round, from, to, coordinator_at, subordinate_at}

module _ (n m : ℕ) where
  -- the sites in round r, after p commands and q replies
  unfoldable pub site_at : Round → ℕ → ℕ → ℕ → Site
  site_at r p q j =
      pick (eqb j 0) (coordinator_at n (to r) q)
      (pick (ltb j n) (pick (leb j p) (subordinate_at n (to r) j) (subordinate_at n (from r) j)) (blank_site false))

  -- and between rounds
  unfoldable pub rest_at : Stage → ℕ → Site
  rest_at stage j = pick (eqb j 0) (coordinator_at n stage m) (pick (ltb j n) (subordinate_at n stage j) (blank_site false))

  -- the sites, one by one

  pub at_first : (r : Round) (p q : ℕ) → site_at r p q 0 ≡ coordinator_at n (to r) q
  unfolding site_at
  at_first r p q = refl

  pub at_moved : (r : Round) (p q j : ℕ) → (j ≡ 0 → ⊥) → j < n → j ≤ p → site_at r p q j ≡ subordinate_at n (to r) j
  unfolding site_at
  at_moved r p q j z h l = rw (ne_eqb j 0 z, lt-ltb j n h, le-leb j p l)

  pub at_waiting : (r : Round) (p q j : ℕ) → (j ≡ 0 → ⊥) → j < n → p < j → site_at r p q j ≡ subordinate_at n (from r) j
  unfolding site_at
  at_waiting r p q j z h l = rw (ne_eqb j 0 z, lt-ltb j n h, lt-leb j p l)

  -- one more command leaves the other sites, one more reply all but site 0

  pub command-leaves : (r : Round) (p q j : ℕ) → (j ≡ suc p → ⊥) → site_at r p q j ≡ site_at r (suc p) q j
  unfolding site_at
  command-leaves r p q j unlike =
      by_test (leb j p)
      (λ e. rw (e, le-leb j (suc p) (omega (arith, leb-true j p e))))
      (λ e. rw (e, lt-leb j (suc p) (omega (arith, leb-false j p e))))

  pub reply-leaves : (r : Round) (p q j : ℕ) → (j ≡ 0 → ⊥) → site_at r p q j ≡ site_at r p (suc q) j
  unfolding site_at
  reply-leaves r p q j unlike = rw (ne_eqb j 0 unlike)

  -- the first command finds the sites at rest, and the last reply leaves them so

  pub rest-opens : (r : Round) (j : ℕ) → (j ≡ 0 → ⊥) → rest_at (from r) j ≡ site_at r 0 0 j
  unfolding rest_at site_at
  rest-opens r j unlike = rw (ne_eqb j 0 unlike, lt-leb j 0 (omega arith))

  pub all-at_rest : n ≡ suc m → (r : Round) (j : ℕ) → site_at r m m j ≡ rest_at (to r) j
  unfolding rest_at site_at
  all-at_rest size r j =
      by_test (ltb j n) (λ e. rw (e, le-leb j m (omega (arith, ltb-true j n e)))) (λ e. rw e)
