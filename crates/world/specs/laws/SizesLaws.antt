-- What sizes that none of 3, 21, 4 and 5 refuses are known to be.
use Prim.Native.Nat.{ℕ, ◌+◌, ◌-◌, ◌^◌, ◌≤◌, ◌<◌}
use Rattle.std.proofs.Math.Bool.{Bool, true}
use Rattle.std.specs.Prelude.{false, List, Result, is_err, ◌≡◌, refl, ltb, leb}
use Rattle.std.proofs.Common.{sym, ◌∙◌, arith}
use Rattle.refusals.specs.declared.Reason.{Reason}
use Rattle.refusals.specs.Refusals.{answer_number}
use Rattle.refusals.specs.laws.RefusalLaws.{answer-ok}
use borrow.Author.Tests.{ltb-true, leb-true, lt-ltb, le-leb}
use Rattle.choice.specs.Choice.{pick, both}
use Rattle.choice.specs.laws.ChoiceLaws.{both-on, both_first, both-second}
use Rattle.choice.specs.Places.{sum_to}
use Rattle.weights.specs.laws.WeightLaws.{weighed, total-below}
use Rattle.weights.specs.Weights.{weight_of, total_weight, largest_weight, valid_weights}
use Rattle.site.specs.declared.CommitQuorum.{CommitQuorum}
use Rattle.site.specs.declared.AbortQuorum.{AbortQuorum}
use Rattle.world.specs.Sizes.{max_sites, sites_fit, quorums_fit, sizes_number}

-- sizes that none of 3, 21, 4 and 5 refuses
pub record Sized (n : ℕ) (weights : List ℕ) (c : CommitQuorum) (a : AbortQuorum) (willing : ℕ) : Type 0 where
  pub low : 3 ≤ n
  pub high : n ≤ 16
  pub weighed : valid_weights n weights ≡ true
  pub commit-most : c.0 ≤ total_weight weights - largest_weight weights
  pub abort-most : a.0 ≤ total_weight weights - largest_weight weights
  pub quorums_meet : total_weight weights < c.0 + a.0
  pub willing-below : willing < 2 ^ n

-- n as 3 wants it
pub record SitesFit (n : ℕ) : Type 0 where
  pub low : 3 ≤ n
  pub high : n ≤ 16

pub sites_fit_lem : (n : ℕ) → sites_fit n ≡ true → SitesFit n
unfolding sites_fit
sites_fit_lem n e =
    record {
      low = leb-true 3 n (both_first (leb 3 n) (leb n max_sites) e);
      high = leb-true n max_sites (both-second (leb 3 n) (leb n max_sites) e);
    }

pub fit-sites : (n : ℕ) → 3 ≤ n → n ≤ 16 → sites_fit n ≡ true
unfolding sites_fit
fit-sites n low high = both-on (leb 3 n) (leb n max_sites) (le-leb 3 n low) (le-leb n max_sites high)

-- a choice that comes to 0 where the other is not 0
passed : (t : Bool) (x refused : ℕ) → 0 < refused → pick t x refused ≡ 0 → (t ≡ true) × (x ≡ 0)
passed true x refused some e = (refl, e)
passed false x refused some e = absurd (omega (arith, e))

module _ (n : ℕ) (weights : List ℕ) (c : CommitQuorum) (a : AbortQuorum) (willing : ℕ) where
  pub sized : sizes_number n weights c a willing ≡ 0 → Sized n weights c a willing
  unfolding sizes_number quorums_fit
  sized e =
      let most : ℕ = total_weight weights - largest_weight weights in
      let after-sites = passed (sites_fit n) (pick (valid_weights n weights) (pick (quorums_fit (total_weight weights) (largest_weight weights) c a) (pick (ltb willing (2 ^ n)) 0 5) 4) 21) 3 (omega arith) e in
      let after-weights = passed (valid_weights n weights) (pick (quorums_fit (total_weight weights) (largest_weight weights) c a) (pick (ltb willing (2 ^ n)) 0 5) 4) 21 (omega arith) after-sites.1 in
      let after-quorums = passed (quorums_fit (total_weight weights) (largest_weight weights) c a) (pick (ltb willing (2 ^ n)) 0 5) 4 (omega arith) after-weights.1 in
      let after-willing = passed (ltb willing (2 ^ n)) 0 5 (omega arith) after-quorums.1 in
      let rest : Bool = both (leb a.0 most) (ltb (total_weight weights) (c.0 + a.0)) in
      let fit : both (leb c.0 most) rest ≡ true = after-quorums.0 in
      record {
        low = (sites_fit_lem n after-sites.0).low;
        high = (sites_fit_lem n after-sites.0).high;
        weighed = after-weights.0;
        commit-most = leb-true c.0 most (both_first (leb c.0 most) rest fit);
        abort-most = leb-true a.0 most (both_first (leb a.0 most) (ltb (total_weight weights) (c.0 + a.0)) (both-second (leb c.0 most) rest fit));
        quorums_meet = ltb-true (total_weight weights) (c.0 + a.0) (both-second (leb a.0 most) (ltb (total_weight weights) (c.0 + a.0)) (both-second (leb c.0 most) rest fit));
        willing-below = ltb-true willing (2 ^ n) after-willing.0;
      }

  -- and such sizes are not refused
  pub fitting : Sized n weights c a willing → sizes_number n weights c a willing ≡ 0
  unfolding sizes_number quorums_fit
  fitting z =
      rw (
        fit-sites n z.low z.high,
        z.weighed,
        le-leb c.0 (total_weight weights - largest_weight weights) z.commit-most,
        le-leb a.0 (total_weight weights - largest_weight weights) z.abort-most,
        lt-ltb (total_weight weights) (c.0 + a.0) z.quorums_meet,
        lt-ltb willing (2 ^ n) z.willing-below,
      )

  -- together the quorums are above what all sites weigh
  pub quorums-above : Sized n weights c a willing → sum_to (weight_of weights) n < c.0 + a.0
  quorums-above z = omega (arith, total-below n weights z.high (weighed n weights z.weighed))

-- of sizes whose check is no Err, n is at most 16
pub few_sites :
    {T : Type 0} (n : ℕ) (weights : List ℕ) (c : CommitQuorum) (a : AbortQuorum) (willing : ℕ) (answer : Result T Reason) →
    answer_number answer ≡ sizes_number n weights c a willing → is_err answer ≡ false → n ≤ 16
few_sites n weights c a willing answer e ok = (sized n weights c a willing (sym e ∙ answer-ok answer ok)).high
