-- Laws of the counts of a history's records.
use Rattle.std.specs.Prelude.{ℕ, zero, suc, ◌+◌, ◌≤◌, ◌<◌, true, List, [], ◌∷◌, ◌++◌, ◌≡◌, refl, ltb, eqb}
use Rattle.std.proofs.Common.{sym, ◌∙◌, arith, eq-eqb, ne_eqb, ltb-true, ltb-false}
use Rattle.choice.specs.Choice.{pick}
use Rattle.choice.specs.laws.ChoiceLaws.{pick-on, pick_off}
use Rattle.site.specs.Records.{Written, LogRecord, wrote, record_code}
use Rattle.choice.specs.laws.Cases.{by_test, by_equal}
use Rattle.history.specs.Safe.{written, written_at}

-- the second history has at least the first's records
pub record Grown (H K : List Written) : Type 0 where
  pub more : (j code : ℕ) → written_at j code H ≤ written_at j code K

pub at-append : (j code : ℕ) (H K : List Written) → written_at j code (H ++ K) ≡ written_at j code H + written_at j code K
unfolding written_at
at-append j code [] K = omega arith
at-append j code (r ∷ H) K = omega (arith, at-append j code H K)

pub grown_append : (H K : List Written) → Grown H (H ++ K)
grown_append H K = record { more = λ j code. omega (arith, at-append j code H K) }

-- a record counts at its own site
pub at_own : (own code : ℕ) (x : LogRecord) → written_at own code (wrote own x ∷ []) ≡ pick (eqb (record_code x) code) 1 0
unfolding written_at
at_own own code x = rw (eq-eqb own own refl) (omega arith)

-- and at no other
pub at_other : (own j code : ℕ) (x : LogRecord) → (j ≡ own → ⊥) → written_at j code (wrote own x ∷ []) ≡ 0
unfolding written_at
at_other own j code x other = rw (ne_eqb own j (λ e. other (sym e)))

-- some record of a code stands at some site
pub some-site : (code : ℕ) (H : List Written) → 1 ≤ written code H → (j : ℕ) × (1 ≤ written_at j code H)
unfolding written written_at
some-site code [] h = absurd (omega arith)
some-site code (r ∷ H) h =
    by_test (eqb (record_code r.what) code)
    (λ e. (r.site, rw (eq-eqb r.site r.site refl, e) (omega arith)))
    (λ e. later (some-site code H (omega (arith, simp e at h))))
  where
    later : (j : ℕ) × (1 ≤ written_at j code H) → (j : ℕ) × (1 ≤ written_at j code (r ∷ H))
    later (j, more) = (j, omega arith)

-- the records of a code at the sites below n
unfoldable pub at_sites : ℕ → ℕ → List Written → ℕ
at_sites zero code H = 0
at_sites (suc k) code H = at_sites k code H + written_at k code H

-- what one record adds to them
at_sites_cons : (n code : ℕ) (r : Written) (H : List Written) →
    at_sites n code (r ∷ H) ≡ at_sites n code (r ∷ []) + at_sites n code H
unfolding at_sites
at_sites_cons zero code r H = refl
at_sites_cons (suc k) code r H =
    omega (arith, at_sites_cons k code r H, at-append k code (r ∷ []) H)

one_missed : (n code : ℕ) (r : Written) → n ≤ r.site → at_sites n code (r ∷ []) ≡ 0
unfolding at_sites
one_missed zero code r h = refl
one_missed (suc k) code r h =
    let e : (k ≡ r.site → ⊥) = omega arith in
    omega (arith, one_missed k code r (omega arith), at_other r.site k code r.what e)

one_met : (n code : ℕ) (r : Written) → r.site < n → at_sites n code (r ∷ []) ≡ pick (eqb (record_code r.what) code) 1 0
unfolding at_sites
one_met zero code r h = absurd (omega arith)
one_met (suc k) code r h =
    by_equal k r.site
    (λ e. rw e (omega (arith, one_missed r.site code r (omega arith), at_own r.site code r.what)))
    (λ e. omega (arith, one_met k code r (omega arith), at_other r.site k code r.what e))

nothing-at_sites : (n code : ℕ) → at_sites n code [] ≡ 0
unfolding at_sites written_at
nothing-at_sites zero code = refl
nothing-at_sites (suc k) code = omega (arith, nothing-at_sites k code)

one-at_sites : (n code : ℕ) (r : Written) → (eqb (record_code r.what) code ≡ true → r.site < n) →
    at_sites n code (r ∷ []) ≡ pick (eqb (record_code r.what) code) 1 0
one-at_sites n code r below =
    by_test (ltb r.site n)
    (λ h. one_met n code r (ltb-true r.site n h))
    (λ h. by_test (eqb (record_code r.what) code)
    (λ e. absurd (omega (arith, ltb-false r.site n h, below e)))
    (λ e. one_missed n code r (ltb-false r.site n h) ∙ sym (pick_off (eqb (record_code r.what) code) 1 0 e)))

-- where every record of a code stands at a site below n, they are all counted there
pub written_at-sites : (n code : ℕ) (H : List Written) → ((j : ℕ) → 1 ≤ written_at j code H → j < n) →
    written code H ≡ at_sites n code H
unfolding written
written_at-sites n code [] below = sym (nothing-at_sites n code)
written_at-sites n code (r ∷ H) below =
    omega (
      arith,
      written_at-sites n code H (λ j h. below j (omega (arith, at-append j code (r ∷ []) H))),
      at_sites_cons n code r H,
      one-at_sites n code r (λ e. below r.site (omega (arith, at-append r.site code (r ∷ []) H, here e))),
    )
  where
    here : eqb (record_code r.what) code ≡ true → written_at r.site code (r ∷ []) ≡ 1
    here e = at_own r.site code r.what ∙ pick-on (eqb (record_code r.what) code) 1 0 e

-- one at each site: n of them
pub one_each : (n code : ℕ) (H : List Written) → ((j : ℕ) → j < n → written_at j code H ≡ 1) → at_sites n code H ≡ n
unfolding at_sites
one_each zero code H each = refl
one_each (suc k) code H each =
    omega (arith, one_each k code H (λ j h. each j (omega arith)), each k (omega arith))
