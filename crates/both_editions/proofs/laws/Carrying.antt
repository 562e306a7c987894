-- A carried list's header in the other edition: the same numbers and weights, and accepted there.
use Rattle.std.specs.Prelude.{ℕ, ◌+◌, ◌≤◌, true, false, List, ◌++◌, ◌≡◌, length, drop}
use Rattle.std.proofs.Common.{true≢false, sym, ◌∙◌, arith}
use Rattle.std.proofs.Math.Path.{ap}
use Rattle.std.proofs.Math.ListN.{length-append, get_or}
use borrow.Author.Tests.{le-ltb}
use Rattle.choice.specs.laws.Cases.{by_test}
use Rattle.weights.specs.Weights.{weights_by, even_weights}
use Rattle.world.specs.Sizes.{list_bytes, sites_fit}
use Rattle.header.specs.declared.Header.{Header}
use Rattle.header.specs.Headers.{first_header, second_header, is_second, header_of, header_weights, header_length, header_sizes, is_cut, header_number, first_sizes, first_number}
use Rattle.header.specs.laws.FirstLaws.{first-sized}
use Rattle.header.specs.laws.Editions.{FirstPlayed, first-played}
use Rattle.spelling.specs.Spelling.{header_bytes}
use Rattle.spelling.specs.Ranges.{HeaderInRange}
use Rattle.spelling.specs.laws.BytesBack.{length-header, header-reads}
use Rattle.conversion.specs.Conversion.{second_bytes, other_bytes, converted, convert_number}
use Rattle.conversion.specs.laws.ConversionLaws.{Carried, carried, carried_in_range, second-length, converts}
use Rattle.both_editions.specs.Claims.{CarriedTo}
use Rattle.both_editions.proofs.laws.HeaderBack.{second-is_second, second_reads, weights-read, second-left, first-is-first, first-left}

-- a list that begins with a header of `first` bytes, in which every site weighs 1, and goes on with the bytes t
pub record Begins (list : List ℕ) (h : Header) (first : ℕ) (t : List ℕ) : Type 0 where
  pub header_is : header_of list ≡ h
  pub weights_are : header_weights list ≡ even_weights h.n
  pub length-is : header_length list ≡ first
  pub left : drop (header_length list) list ≡ t
  pub accepted : header_number list ≡ 0

module _ (h : Header) (t : List ℕ) (sizes : first_sizes h ≡ 0) where
  -- in the first edition
  module _ (range : HeaderInRange h) (fits : length (header_bytes h ++ t) ≤ list_bytes) where
    first-accepted : first_number (header_bytes h ++ t) ≡ 0
    unfolding first_number
    first-accepted =
        rw (
          le-ltb list_bytes (length (header_bytes h ++ t)) fits,
          le-ltb (length (header_bytes h ++ t)) 5 (omega (arith, length-append (header_bytes h) t, length-header h)),
          header-reads h t range,
        )
        sizes

    first-begins : Begins (header_bytes h ++ t) h 5 t
    first-begins =
        let p : FirstPlayed (header_bytes h ++ t) = first-played (header_bytes h ++ t) first-accepted in
        record {
          header_is = p.header_is ∙ header-reads h t range;
          weights_are = p.weights_are ∙ ap (λ x. even_weights x.n) (header-reads h t range);
          length-is = p.length-is;
          left = ap (λ k. drop k (header_bytes h ++ t)) p.length-is ∙ first-left h t;
          accepted = p.accepted;
        }

  -- in the second
  module _ (fits : length (second_bytes h ++ t) ≤ list_bytes) where
    header-second : header_of (second_bytes h ++ t) ≡ h
    unfolding header_of
    header-second = rw (second-is_second h t) (second_reads h t)

    weights-second : header_weights (second_bytes h ++ t) ≡ even_weights h.n
    unfolding header_weights
    weights-second =
        rw (second-is_second h t)
        (ap (λ x. weights_by (λ i. get_or (second_bytes h ++ t) (8 + i) 0) x.n) header-second ∙ weights-read h t)

    length-second : header_length (second_bytes h ++ t) ≡ 8 + h.n
    unfolding header_length
    length-second = rw (second-is_second h t) (ap (λ x. 8 + x.n) header-second)

    long-second : length (second_bytes h ++ t) ≡ 8 + h.n + length t
    long-second = omega (arith, length-append (second_bytes h) t, second-length h)

    uncut-second : is_cut (second_bytes h ++ t) ≡ false
    unfolding is_cut
    uncut-second =
        rw (le-ltb (length (second_bytes h ++ t)) (header_length (second_bytes h ++ t)) (omega (arith, length-second, long-second)))
        (by_test (sites_fit (header_of (second_bytes h ++ t)).n) (λ fit. rw fit) (λ unfit. rw unfit))

    accepted-second : header_number (second_bytes h ++ t) ≡ 0
    unfolding header_number first_sizes
    accepted-second =
        rw (
          le-ltb list_bytes (length (second_bytes h ++ t)) fits,
          le-ltb (length (second_bytes h ++ t)) 5 (omega (arith, long-second)),
          uncut-second,
        )
        (ap (λ x. header_sizes x (header_weights (second_bytes h ++ t))) header-second ∙ ap (header_sizes h) weights-second ∙ sizes)

    second-begins : Begins (second_bytes h ++ t) h (8 + h.n) t
    second-begins =
        record {
          header_is = header-second;
          weights_are = weights-second;
          length-is = length-second;
          left = ap (λ k. drop k (second_bytes h ++ t)) length-second ∙ second-left h t;
          accepted = accepted-second;
        }

-- the converted list, whichever way it goes
module _ (list : List ℕ) where
  pub back_shape : is_second list ≡ true → converted list ≡ header_bytes (header_of list) ++ drop (header_length list) list
  unfolding converted other_bytes
  back_shape second = rw second

  pub forward_shape : is_second list ≡ false → converted list ≡ second_bytes (header_of list) ++ drop (header_length list) list
  unfolding converted other_bytes
  forward_shape first = rw first

  -- its own header, and the header's length
  pub back-header : is_second list ≡ true → header_of list ≡ second_header list
  unfolding header_of
  back-header second = rw second

  pub forward_header : is_second list ≡ false → header_of list ≡ first_header list
  unfolding header_of
  forward_header first = rw first

  pub back_from : is_second list ≡ true → header_length list ≡ 8 + (header_of list).n
  unfolding header_length
  back_from second = rw second

  pub forward_from : is_second list ≡ false → header_length list ≡ 5
  unfolding header_length
  forward_from first = rw first

  module _ (good : convert_number list ≡ 0) where
    known : Carried list
    known = carried list (converts list good).carries

    range : HeaderInRange (header_of list)
    range = carried_in_range list (converts list good).carries

    pub back-begins : is_second list ≡ true → Begins (converted list) (header_of list) 5 (drop (header_length list) list)
    back-begins second =
        rw (back_shape second)
        (first-begins (header_of list) (drop (header_length list) list) known.sizes range (rw (back_shape second) at (converts list good).fits))

    pub back-accepted : is_second list ≡ true → first_number (converted list) ≡ 0
    back-accepted second =
        rw (back_shape second)
        (first-accepted (header_of list) (drop (header_length list) list) known.sizes range (rw (back_shape second) at (converts list good).fits))

    pub forward-begins : is_second list ≡ false → Begins (converted list) (header_of list) (8 + (header_of list).n) (drop (header_length list) list)
    forward-begins first =
        rw (forward_shape first)
        (second-begins (header_of list) (drop (header_length list) list) known.sizes (rw (forward_shape first) at (converts list good).fits))

    pub back-is-first : is_second list ≡ true → is_second (converted list) ≡ false
    back-is-first second =
        rw (back_shape second)
        (first-is-first (header_of list) (drop (header_length list) list) (first-sized (header_of list) known.sizes).high)

    pub forward-is-second : is_second list ≡ false → is_second (converted list) ≡ true
    forward-is-second first = rw (forward_shape first) (second-is_second (header_of list) (drop (header_length list) list))

    pub is_carried : CarriedTo list (converted list)
    is_carried =
        by_test (is_second list)
        (λ second. let b : Begins (converted list) (header_of list) 5 (drop (header_length list) list) = back-begins second in
        record {
          other_edition = rw (second, back-is-first second);
          accepted = b.accepted;
          same-header = b.header_is;
          same_weights_lem = b.weights_are ∙ sym known.weights;
          longer = λ first. absurd (true≢false (sym second ∙ first));
          shorter = λ _. omega (arith, back_from second, b.length-is);
          same-commands = b.left;
        })
        (λ first. let b : Begins (converted list) (header_of list) (8 + (header_of list).n) (drop (header_length list) list) = forward-begins first in
        record {
          other_edition = rw (first, forward-is-second first);
          accepted = b.accepted;
          same-header = b.header_is;
          same_weights_lem = b.weights_are ∙ sym known.weights;
          longer = λ _. omega (arith, forward_from first, b.length-is);
          shorter = λ second. absurd (true≢false (sym second ∙ first));
          same-commands = b.left;
        })
