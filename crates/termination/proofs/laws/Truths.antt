-- What is true in a world with which the rounds go on.
use Rattle.std.specs.Prelude.{ℕ, ◌≤◌, ◌<◌, false, List, ◌≡◌, get_or}
use Rattle.std.proofs.Common.{subst, arith}
use borrow.Author.Tests.{ne_eqb}
use Rattle.choice.specs.laws.Cases.{by_equal}
use Rattle.vector.specs.Codes.{is_outcome}
use Rattle.merging.specs.Merging.{merging}
use Rattle.row.specs.declared.Row.{Row}
use Rattle.row.specs.Rows.{get_row}
use Rattle.site.specs.State.{state_of}
use Rattle.site.specs.Fields.{with_codes}
use Rattle.site.specs.Records.{Written}
use Rattle.rules.specs.Rules.{hear}
use Rattle.world.specs.declared.World.{World}
use Rattle.world.specs.Worlds.{site_of}
use Rattle.world.specs.laws.SizesLaws.{Sized, quorums-above}
use Rattle.world.specs.laws.WorldLaws.{valid_parts, valid-sized}
use Rattle.history.specs.Safe.{written_at}
use Rattle.history.proofs.laws.Truth.{TrueCode, TrueVector}
use Rattle.history.proofs.laws.TruthLaws.{vector_merge, says, says_code, not_both}
use Rattle.safety.proofs.laws.Invariant.{terms_of}
use Rattle.safety.proofs.laws.Shape.{long_of}
use Rattle.member.specs.laws.SoundSites.{SoundSite, site-sound}
use Rattle.termination.proofs.laws.Codes.{from-prepared, record_is_code}
use Rattle.termination.proofs.laws.Fine.{Fine, few, code_at, entry_at}

-- nobody has an outcome, and everybody has
pub record Open (o w : World) : Type 0 where
  pub none : (j : ℕ) → j < o.n → code_at w j < 4

pub record AllDecided (o w : World) : Type 0 where
  pub each : (j : ℕ) → j < o.n → 4 ≤ code_at w j

module _ (o w : World) (store : List ℕ) (fine : Fine o w store) where
  pub within : (j : ℕ) → j < o.n → j < w.n
  within j h = omega (arith, h, fine.sizes)

  sound : (j : ℕ) → j < o.n → SoundSite j w.n (site_of w j)
  sound j h =
      site-sound j w.n (site_of w j) (long_of w fine.shaped j (omega (arith, h, few o w store fine))) ((valid_parts w fine.valid).sites j (within j h))

  -- a site's own entry is its state, and no entry is above 5
  pub own-entry : (j : ℕ) → j < o.n → entry_at w j j ≡ code_at w j
  own-entry j h = (sound j h).own_code

  pub entry-small : (j k : ℕ) → j < o.n → k < o.n → entry_at w j k ≤ 5
  entry-small j k h l = ((sound j h).codes.at k (omega (arith, l, few o w store fine))).small (within k l)

  -- the records of a site bear out its state
  abbrev H : List Written
  H = fine.history

  -- a site that has prepared is not active
  pub prepared-some : (j : ℕ) → j < o.n → 1 ≤ written_at j 1 H → 1 ≤ code_at w j
  prepared-some j h some =
      from-prepared j H (fine.inv.history.each j).one-group (fine.inv.history.each j).one-outcome (state_of (site_of w j)) some
      (says (fine.inv.sites j (within j h)))

  module _ (going : Open o w) where
    -- a group or an outcome that is on record is the state
    on-record : (j code : ℕ) → j < o.n → 2 ≤ code → code ≤ 5 → 1 ≤ written_at j code H → code ≡ code_at w j
    on-record j code h low high some =
        record_is_code j H (fine.inv.history.each j).one-group (fine.inv.history.each j).one-outcome (state_of (site_of w j)) code low high some
        (says (fine.inv.sites j (within j h))) (going.none j h)

    -- where nobody has an outcome, an entry that shows a group shows the state
    pub entry-is-code : (i j : ℕ) → i < o.n → j < o.n → 2 ≤ entry_at w i j → entry_at w i j ≡ code_at w j
    entry-is-code i j h l some =
        on-record j (entry_at w i j) l some (entry-small i j h l)
        ((fine.inv.sites i (within i h)).codes.codes j (within j l) (omega (arith, some)))

    -- and no true code is an outcome
    none_true : (j code : ℕ) → j < o.n → TrueCode H j code → is_outcome code ≡ false
    unfolding is_outcome
    none_true j code h true-code =
        by_equal code 4 (λ e. absurd (never (omega (arith, e)) (omega (arith, e)))) λ n4.
        by_equal code 5 (λ e. absurd (never (omega (arith, e)) (omega (arith, e)))) λ n5.
        rw (ne_eqb code 4 n4, ne_eqb code 5 n5)
      where
        never : 4 ≤ code → code ≤ 5 → ⊥
        never low high =
            omega (arith, low, going.none j h, on-record j code h (omega (arith, low)) high (true-code (omega (arith, low))))

    -- nor is one after a merge
    pub none-heard : (k j : ℕ) → k < w.rows → j < o.n → (x : ℕ) → x < w.n →
        is_outcome (get_or (hear j w.n (get_row store k) (site_of w j)).codes x 0) ≡ false
    unfolding hear with_codes
    none-heard k j there h x l =
        let row : Row = get_row store k in
        let merged : TrueVector w.n H (merging w.n j row.sender row.codes (site_of w j).codes).codes =
        vector_merge j row.sender row.codes (site_of w j).codes fine.inv.few (fine.inv.rows k there).codes
        (fine.inv.sites j (within j h)).codes in
        none_true x (get_or (merging w.n j row.sender row.codes (site_of w j).codes).codes x 0) (omega (arith, l, fine.sizes))
        (merged.codes x l)

  -- no site has committed where another has aborted
  pub never_both : (i j : ℕ) → i < o.n → j < o.n → code_at w i ≡ 4 → code_at w j ≡ 5 → ⊥
  never_both i j h l four five =
      let sizes : Sized w.n w.weights w.commit w.abort w.willing = valid-sized w fine.valid in
      not_both (terms_of w) H fine.inv.history (omega (arith, sizes)) (quorums-above w.n w.weights w.commit w.abort w.willing sizes) i j
      (subst (TrueCode H i) four (written i h) (omega arith)) (subst (TrueCode H j) five (written j l) (omega arith))
    where
      written : (j : ℕ) → j < o.n → TrueCode H j (code_at w j)
      written j h = says_code (state_of (site_of w j)) j H (says (fine.inv.sites j (within j h)))
