-- What the sizes of a first-edition header that none of 3 to 5 refuses are known to be: every site weighs 1, so W is n and h is 1.
use Rattle.std.specs.Prelude.{ℕ, ◌+◌, ◌^◌, ◌≤◌, ◌<◌, ◌≡◌}
use Rattle.std.proofs.Common.{arith}
use Rattle.weights.specs.Weights.{total_weight, largest_weight, even_weights}
use Rattle.weights.specs.laws.WeightLaws.{weighing, even_weighed, even_total, even_largest}
use Rattle.site.specs.declared.CommitQuorum.{CommitQuorum}
use Rattle.site.specs.declared.AbortQuorum.{AbortQuorum}
use Rattle.world.specs.laws.SizesLaws.{Sized, fitting}
use Rattle.header.specs.declared.Header.{Header}
use Rattle.header.specs.Headers.{header_sizes, first_sizes}
use Rattle.header.specs.laws.HeaderLaws.{header-sized}

-- sizes that none of 3 to 5 refuses where every site weighs 1
pub record FirstSized (n : ℕ) (c : CommitQuorum) (a : AbortQuorum) (willing : ℕ) : Type 0 where
  pub low : 3 ≤ n
  pub high : n ≤ 16
  pub commit-below : c.0 < n
  pub abort-below : a.0 < n
  pub quorums_meet : n < c.0 + a.0
  pub willing-below : willing < 2 ^ n

pub first-sized : (h : Header) → first_sizes h ≡ 0 → FirstSized h.n h.commit h.abort h.willing
unfolding first_sizes
first-sized h e =
    let z : Sized h.n (even_weights h.n) h.commit h.abort h.willing = header-sized h (even_weights h.n) e in
    let total : total_weight (even_weights h.n) ≡ h.n = even_total h.n z.high in
    let largest : largest_weight (even_weights h.n) ≡ 1 = even_largest h.n (omega (arith, z.low)) in
    record {
      low = z.low;
      high = z.high;
      commit-below = omega (arith, z.low, z.commit-most, total, largest);
      abort-below = omega (arith, z.low, z.abort-most, total, largest);
      quorums_meet = omega (arith, z.quorums_meet, total);
      willing-below = z.willing-below;
    }

-- and such sizes are not refused
pub first-fitting : (h : Header) → FirstSized h.n h.commit h.abort h.willing → first_sizes h ≡ 0
unfolding first_sizes header_sizes
first-fitting h z =
    let total : total_weight (even_weights h.n) ≡ h.n = even_total h.n z.high in
    let largest : largest_weight (even_weights h.n) ≡ 1 = even_largest h.n (omega (arith, z.low)) in
    fitting h.n (even_weights h.n) h.commit h.abort h.willing
    (record {
      low = z.low;
      high = z.high;
      weighed = weighing h.n (even_weights h.n) (even_weighed h.n);
      commit-most = omega (arith, z.commit-below, total, largest);
      abort-most = omega (arith, z.abort-below, total, largest);
      quorums_meet = omega (arith, z.quorums_meet, total);
      willing-below = z.willing-below;
    })
