-- Weight: of the sites whose entry is a code, and of the sites with a record that leads to it.
use Prim.Native.Nat.{ℕ, zero, suc, ◌+◌, ◌≤◌, ◌<◌}
use Rattle.std.specs.Prelude.{List, ◌≡◌, ltb, eqb, get_or}
use native.Mathlib.Omega.{arith}
use borrow.Author.Tests.{lt-ltb, ltb-true, ltb-false, eqb-true}
use Rattle.choice.specs.Choice.{pick}
use Rattle.vector.specs.Codes.{is_outcome}
use Rattle.vector.specs.Vector.{entry_weight, weigh, first_outcome, lowest_outcome}
use Rattle.site.specs.Records.{Written}
use Rattle.choice.specs.laws.Cases.{by_test, by_equal}
use Rattle.choice.specs.Places.{sum_to}
use Rattle.history.specs.Safe.{written_at}
use Rattle.history.proofs.laws.HistoryLaws.{Grown}

-- what a site adds to the weight of a code's records
unfoldable pub site_share : (ℕ → ℕ) → ℕ → ℕ → List Written → ℕ
site_share weight code k H = pick (ltb 0 (written_at k code H)) (weight k) 0

-- the weight of the sites below n that have a record of the code
unfoldable pub weigh_records : (ℕ → ℕ) → ℕ → ℕ → List Written → ℕ
weigh_records weight zero code H = 0
weigh_records weight (suc k) code H = weigh_records weight k code H + site_share weight code k H

module _ (weight : ℕ → ℕ) where
  share-written : (code k : ℕ) (H : List Written) → 1 ≤ written_at k code H → site_share weight code k H ≡ weight k
  unfolding site_share
  share-written code k H h = rw (lt-ltb 0 (written_at k code H) h)

  share-none : (code k : ℕ) (H : List Written) → written_at k code H ≡ 0 → site_share weight code k H ≡ 0
  unfolding site_share
  share-none code k H h = rw h

  -- a site has a record of the code, or adds nothing
  share-cases : {P : Type 0} (code k : ℕ) (H : List Written) → (1 ≤ written_at k code H → site_share weight code k H ≡ weight k → P) →
      (written_at k code H ≡ 0 → site_share weight code k H ≡ 0 → P) → P
  share-cases code k H some none =
      by_test (ltb 0 (written_at k code H))
      (λ e. let h : 1 ≤ written_at k code H = ltb-true 0 (written_at k code H) e in some h (share-written code k H h))
      (λ e. let h : written_at k code H ≡ 0 = omega (arith, ltb-false 0 (written_at k code H) e) in none h (share-none code k H h))

  share-grows : (code k : ℕ) {H K : List Written} → Grown H K → site_share weight code k H ≤ site_share weight code k K
  share-grows code k {H} {K} g =
      share-cases code k H
      (λ h e. omega (arith, share-written code k K (omega (arith, g.more k code))))
      (λ h e. omega arith)

  pub records_grow : (n code : ℕ) {H K : List Written} → Grown H K → weigh_records weight n code H ≤ weigh_records weight n code K
  unfolding weigh_records
  records_grow zero code g = omega arith
  records_grow (suc k) code g = omega (arith, records_grow k code g, share-grows code k g)

  -- a weight of records comes from some site
  pub weight-from : (n code : ℕ) (H : List Written) → 1 ≤ weigh_records weight n code H → (j : ℕ) × (j < n) × (1 ≤ written_at j code H)
  unfolding weigh_records
  weight-from zero code H h = absurd (omega arith)
  weight-from (suc k) code H h =
      share-cases code k H
      (λ some e. (k, omega arith, some))
      (λ none e. below (weight-from k code H (omega arith)))
    where
      below : (j : ℕ) × (j < k) × (1 ≤ written_at j code H) → (j : ℕ) × (j < suc k) × (1 ≤ written_at j code H)
      below (j, less, some) = (j, omega arith, some)

  -- two codes of which no site has both weigh no more than all sites
  pub weights_apart : (n x y : ℕ) (H : List Written) → ((j : ℕ) → written_at j x H + written_at j y H ≤ 1) →
      weigh_records weight n x H + weigh_records weight n y H ≤ sum_to weight n
  unfolding weigh_records sum_to
  weights_apart zero x y H apart = omega arith
  weights_apart (suc k) x y H apart =
      let rest : weigh_records weight k x H + weigh_records weight k y H ≤ sum_to weight k = weights_apart k x y H apart in
      share-cases x k H
      (λ h e. omega (arith, share-none y k H (omega (arith, apart k))))
      (λ h e. share-cases y k H (λ h' e'. omega arith) (λ h' e'. omega arith))

  -- entries that records bear out weigh no more than the records
  pub entries-backed : (n code : ℕ) (v : List ℕ) (H : List Written) →
      ((i : ℕ) → i < n → get_or v i 0 ≡ code → 1 ≤ written_at i code H) → weigh weight n v code ≤ weigh_records weight n code H
  unfolding weigh weigh_records entry_weight
  entries-backed zero code v H backed = omega arith
  entries-backed (suc k) code v H backed =
      let rest : weigh weight k v code ≤ weigh_records weight k code H = entries-backed k code v H (λ i h. backed i (omega arith)) in
      by_test (eqb (get_or v k 0) code)
      (λ e. rw e (omega (arith, share-written code k H (backed k (omega arith) (eqb-true (get_or v k 0) code e)))))
      (λ e. rw e (omega arith))

  -- a weight of entries comes from some entry
  pub entry-from : (n code : ℕ) (v : List ℕ) → 1 ≤ weigh weight n v code → (i : ℕ) × (i < n) × (get_or v i 0 ≡ code)
  unfolding weigh entry_weight
  entry-from zero code v h = absurd (omega arith)
  entry-from (suc k) code v h =
      by_test (eqb (get_or v k 0) code)
      (λ e. (k, omega arith, eqb-true (get_or v k 0) code e))
      (λ e. below (entry-from k code v (omega (arith, rw e at h))))
    where
      below : (i : ℕ) × (i < k) × (get_or v i 0 ≡ code) → (i : ℕ) × (i < suc k) × (get_or v i 0 ≡ code)
      below (i, less, same) = (i, omega arith, same)

-- entries are at most as many as the sites
count_most : (n code : ℕ) (v : List ℕ) → weigh (λ _. 1) n v code ≤ n
unfolding weigh entry_weight
count_most zero code v = omega arith
count_most (suc k) code v =
    by_test (eqb (get_or v k 0) code)
    (λ e. rw e (omega (arith, count_most k code v)))
    (λ e. rw e (omega (arith, count_most k code v)))

-- as many as the sites: every entry is the code
pub count-all : (n code : ℕ) (v : List ℕ) → weigh (λ _. 1) n v code ≡ n → (i : ℕ) → i < n → get_or v i 0 ≡ code
unfolding weigh entry_weight
count-all zero code v h i less = absurd (omega arith)
count-all (suc k) code v h i less =
    by_test (eqb (get_or v k 0) code)
    (λ e. by_equal i k
    (λ same. rw same (eqb-true (get_or v k 0) code e))
    (λ other. count-all k code v (omega (arith, rw e at h)) i (omega arith)))
    (λ e. absurd (omega (arith, rw e at h, count_most k code v)))

-- the lowest outcome is some site's entry
pub outcome-from : (n x : ℕ) (v : List ℕ) → 1 ≤ x → lowest_outcome n v ≡ x → (i : ℕ) × (i < n) × (get_or v i 0 ≡ x)
unfolding lowest_outcome first_outcome
outcome-from zero x v some h = absurd (omega arith)
outcome-from (suc k) x v some h =
    by_test (is_outcome (lowest_outcome k v))
    (λ e. below (outcome-from k x v some (rw e at h)))
    (λ e. by_test (is_outcome (get_or v k 0))
    (λ e'. (k, omega arith, rw (e, e') at h))
    (λ e'. absurd (omega (arith, rw (e, e') at h))))
  where
    below : (i : ℕ) × (i < k) × (get_or v i 0 ≡ x) → (i : ℕ) × (i < suc k) × (get_or v i 0 ≡ x)
    below (i, less, same) = (i, omega arith, same)
