-- A list that is accepted as one of the first edition is played as one: its n is not 130.
use Rattle.std.specs.Prelude.{ℕ, false, List, ◌≡◌, length, get_or}
use Rattle.std.proofs.Common.{arith}
use borrow.Author.Tests.{le-ltb, ne_eqb}
use Rattle.choice.specs.laws.Cases.{by_test}
use Rattle.weights.specs.Weights.{even_weights}
use Rattle.world.specs.Sizes.{list_bytes, sites_fit}
use Rattle.header.specs.Headers.{first_header, is_second, header_of, header_weights, header_length, is_cut, header_number, first_sizes, first_number}
use Rattle.header.specs.laws.HeaderLaws.{first-headed}
use Rattle.header.specs.laws.FirstLaws.{first-sized}

pub record FirstPlayed (list : List ℕ) : Type 0 where
  pub header_is : header_of list ≡ first_header list
  pub weights_are : header_weights list ≡ even_weights (first_header list).n
  pub length-is : header_length list ≡ 5
  pub accepted : header_number list ≡ 0

module _ (list : List ℕ) (e : first_number list ≡ 0) where
  not_second : is_second list ≡ false
  unfolding is_second first_header
  not_second = ne_eqb (get_or list 0 0) 130 (λ q. omega (arith, q, (first-sized (first_header list) (first-headed list e).sizes).high))

  header-first : header_of list ≡ first_header list
  unfolding header_of
  header-first = rw not_second

  weights-first : header_weights list ≡ even_weights (first_header list).n
  unfolding header_weights
  weights-first = rw (not_second, header-first)

  length-first : header_length list ≡ 5
  unfolding header_length
  length-first = rw not_second

  cut_first : is_cut list ≡ false
  unfolding is_cut
  cut_first = rw (length-first, le-ltb (length list) 5 (first-headed list e).header) (by_test (sites_fit (header_of list).n) (λ fit. rw fit) (λ unfit. rw unfit))

  pub first-played : FirstPlayed list
  unfolding header_number first_sizes
  first-played =
      record {
        header_is = header-first;
        weights_are = weights-first;
        length-is = length-first;
        accepted =
            rw (le-ltb list_bytes (length list) (first-headed list e).small, le-ltb (length list) 5 (first-headed list e).header, cut_first, weights-first, header-first)
            (first-headed list e).sizes;
      }
