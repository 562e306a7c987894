-- Laws of the sets of sites.
use Rattle.std.specs.Prelude.{ℕ, ◌-◌, ◌*◌, ◌%◌, ◌^◌, ◌≤◌, ◌<◌, ◌≡◌}
use Rattle.std.proofs.Common.{mod-eq_of_lt, one-mul, arith, pow_mono}
use Rattle.std.proofs.Math.Pow.{pow-lt}

-- a shift of 1 that does not wrap
pub one_shifted : (k : ℕ) → k < 64 → 1 * 2 ^ k % 2 ^ 64 ≡ 2 ^ k
one_shifted k h = rw one-mul (mod-eq_of_lt (pow-lt h))

-- the sets of sites below 16
pub bits_below : (k : ℕ) → k ≤ 16 → 2 ^ k ≤ 65536
bits_below k h = pow_mono {i = k} {j = 16} h

-- a site below n is one of the sites below n
pub one_of : (n own : ℕ) → own < n → 2 ^ own ≤ 2 ^ n - 1
one_of n own h = let p : 2 ^ own < 2 ^ n = pow-lt h in omega arith
