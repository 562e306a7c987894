-- A quiet day's commands: how many they are, and that their numbers are in range.
use Rattle.std.specs.Prelude.{ℕ, zero, suc, ◌+◌, ◌-◌, ◌*◌, ◌≤◌, ◌<◌, List, [], ◌∷◌, ◌++◌, ◌≡◌, refl, length}
use Rattle.std.proofs.Common.{ap}
use native.Mathlib.Omega.{arith}
use Rattle.std.proofs.Math.ListN.{length-append}
use Rattle.command.specs.declared.Command.{Command}
use Rattle.command.specs.declared.Command.TheVariants as Command·
use Rattle.spelling.specs.Ranges.{InRange, AllInRange}
use Rattle.quiet.specs.Quiet.{row_to, waited, to_each, from_each, replies_after, replies_at_once, exchange, quiet_in}
use Rattle.quiet_run.specs.Claims.{asks_of}

-- an order of m deliveries of row k and their replies: its numbers are in range, and it has two for each site
pub record Ordered (order : ℕ → ℕ → List Command) : Type 0 where
  pub in_range : (k m : ℕ) → k + m < 65536 → m < 256 → AllInRange (order k m)
  pub twice : (k m : ℕ) → length (order k m) ≡ 2 * m

range-append : (xs ys : List Command) → AllInRange xs → AllInRange ys → AllInRange (xs ++ ys)
range-append [] ys p q = q
range-append (c ∷ xs) ys (AllInRange.more low ok) q = AllInRange.more low (range-append xs ys ok q)

to-range : (k m : ℕ) → k < 65536 → m < 256 → AllInRange (to_each k m)
unfolding to_each row_to InRange
to-range k zero few low = AllInRange.none
to-range k (suc m) few low = range-append (to_each k m) (row_to k (suc m) ∷ []) (to-range k m few (omega arith)) (AllInRange.more (few, low) AllInRange.none)

from-range : (k m : ℕ) → k + m < 65536 → AllInRange (from_each k m)
unfolding from_each row_to InRange
from-range k zero few = AllInRange.none
from-range k (suc m) few = range-append (from_each k m) (row_to (k + suc m) 0 ∷ []) (from-range k m (omega arith)) (AllInRange.more (few, omega arith) AllInRange.none)

once-range : (k m : ℕ) → k + m < 65536 → m < 256 → AllInRange (replies_at_once k m)
unfolding replies_at_once row_to InRange
once-range k zero few low = AllInRange.none
once-range k (suc m) few low =
    range-append (replies_at_once k m) (row_to k (suc m) ∷ row_to (k + suc m) 0 ∷ []) (once-range k m (omega arith) (omega arith))
    (AllInRange.more (omega arith, low) (AllInRange.more (few, omega arith) AllInRange.none))

to_each_lem : (k m : ℕ) → length (to_each k m) ≡ m
unfolding to_each
to_each_lem k zero = refl
to_each_lem k (suc m) = omega (arith, length-append (to_each k m) (row_to k (suc m) ∷ []), to_each_lem k m)

from_each_lem : (k m : ℕ) → length (from_each k m) ≡ m
unfolding from_each
from_each_lem k zero = refl
from_each_lem k (suc m) = omega (arith, length-append (from_each k m) (row_to (k + suc m) 0 ∷ []), from_each_lem k m)

once-each : (k m : ℕ) → length (replies_at_once k m) ≡ 2 * m
unfolding replies_at_once
once-each k zero = refl
once-each k (suc m) =
    omega (arith, length-append (replies_at_once k m) (row_to k (suc m) ∷ row_to (k + suc m) 0 ∷ []), once-each k m)

pub after_ordered : Ordered replies_after
unfolding replies_after
after_ordered =
    record {
      in_range = λ k m few low. range-append (to_each k m) (from_each k m) (to-range k m (omega arith) low) (from-range k m few);
      twice = λ k m. omega (arith, length-append (to_each k m) (from_each k m), to_each_lem k m, from_each_lem k m);
    }

pub at_once_ordered : Ordered replies_at_once
at_once_ordered = record { in_range = once-range; twice = once-each }

module _ (order : ℕ → ℕ → List Command) (ordered : Ordered order) (n : ℕ) (some : 1 ≤ n) (few : n ≤ 16) where
  pub quiet-range : AllInRange (quiet_in order n)
  unfolding quiet_in exchange waited InRange
  quiet-range =
      range-append (exchange order Command·.Start 0 (n - 1) ++ exchange order waited n (n - 1)) (exchange order waited (2 * n) (n - 1))
      (range-append (exchange order Command·.Start 0 (n - 1)) (exchange order waited n (n - 1))
      (AllInRange.more tt (ordered.in_range 0 (n - 1) (omega arith) (omega arith)))
      (AllInRange.more (omega arith) (ordered.in_range n (n - 1) (omega arith) (omega arith))))
      (AllInRange.more (omega arith) (ordered.in_range (2 * n) (n - 1) (omega arith) (omega arith)))

  pub quiet-events : length (quiet_in order n) ≡ 3 + 6 * (n - 1)
  unfolding quiet_in exchange
  quiet-events =
      omega (
        arith,
        length-append (exchange order Command·.Start 0 (n - 1) ++ exchange order waited n (n - 1)) (exchange order waited (2 * n) (n - 1)),
        length-append (exchange order Command·.Start 0 (n - 1)) (exchange order waited n (n - 1)),
        ordered.twice 0 (n - 1),
        ordered.twice n (n - 1),
        ordered.twice (2 * n) (n - 1),
      )

-- one call each
pub asks-length : (cs : List Command) → length (asks_of cs) ≡ length cs
unfolding asks_of
asks-length [] = refl
asks-length (c ∷ cs) = ap suc (asks-length cs)
