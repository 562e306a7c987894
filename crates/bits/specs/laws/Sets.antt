-- Which sites are in the sets of all sites, of all but one and of one alone: looked up, for at most sixteen sites.
use Rattle.std.specs.Prelude.{ℕ, ◌^◌, ◌≤◌, ◌<◌, Bool, true, ◌≡◌, refl, ltb, eqb}
use Rattle.std.proofs.Common.{arith, pow_pos, lt-ltb, ne_eqb}
use Rattle.std.proofs.Math.Pow.{pow-lt}
use Rattle.choice.specs.Choice.{pick, both}
use Rattle.choice.specs.Places.{all_below}
use Rattle.choice.specs.laws.Stores.{all-each}
use Rattle.bits.specs.Bits.{has_bit, only_site, every_site, other_sites}
use Rattle.bits.specs.laws.BitLaws.{bits_below}

every_looked : ℕ → ℕ → Bool
every_looked n j = pick (ltb j n) (has_bit (every_site n) j) true

every_table : all_below (λ n. all_below (every_looked n) 16) 17 ≡ true
unfolding all_below every_looked has_bit every_site
every_table = refl

-- all sites below n are among all sites
pub every_has : (n j : ℕ) → n ≤ 16 → j < n → has_bit (every_site n) j ≡ true
unfolding every_looked
every_has n j few below =
    rw (lt-ltb j n below) at
    (all-each (every_looked n) 16 (all-each (λ n. all_below (every_looked n) 16) 17 every_table n (omega arith)) j (omega arith))

other_looked : ℕ → ℕ → ℕ → Bool
other_looked n own j = pick (both (ltb own n) (ltb j n)) (pick (eqb j own) true (has_bit (other_sites n own) j)) true

other-table : all_below (λ n. all_below (λ own. all_below (other_looked n own) 16) 16) 17 ≡ true
unfolding all_below other_looked has_bit other_sites every_site
other-table = refl

-- and all but one are among the others
pub other_has : (n own j : ℕ) → n ≤ 16 → own < n → j < n → (j ≡ own → ⊥) → has_bit (other_sites n own) j ≡ true
unfolding other_looked
other_has n own j few inside below unlike =
    rw (lt-ltb own n inside, lt-ltb j n below, ne_eqb j own unlike) at
    (all-each (other_looked n own) 16
    (all-each (λ own. all_below (other_looked n own) 16) 16
    (all-each (λ n. all_below (λ own. all_below (other_looked n own) 16) 16) 17 other-table n (omega arith)) own (omega arith)) j
    (omega arith))

-- and they are sixteen bits
pub other-small : (n own : ℕ) → n ≤ 16 → other_sites n own < 65536
unfolding other_sites every_site
other-small n own few = let p : 2 ^ n ≤ 65536 = bits_below n few in omega (arith, pow_pos n)

only_table : all_below (λ j. has_bit (only_site j) j) 16 ≡ true
unfolding all_below has_bit only_site
only_table = refl

-- a site is the one of the set of itself
pub only_has : (j : ℕ) → j < 16 → has_bit (only_site j) j ≡ true
only_has j few = all-each (λ j. has_bit (only_site j) j) 16 only_table j few

pub only_small : (j : ℕ) → j < 16 → only_site j < 65536
unfolding only_site
only_small j few = pow-lt {i = j} {j = 16} few
