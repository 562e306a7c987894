-- What is known of a list that can be carried to the other edition, and what each return of the call leaves.
use Rattle.std.specs.Prelude.{ℕ, ◌+◌, ◌-◌, ◌≤◌, ◌<◌, Bool, true, false, List, [], ◌∷◌, ◌≡◌, ltb, eqb, length, take, drop, get_or, replicate}
use Rattle.std.proofs.Common.{sym, ap, ◌∙◌, arith, length-append, length-drop}
use Rattle.std.proofs.lemmas.List.{length-replicate, replicate-append-replicate}
use borrow.Author.Rules.{part_to_end}
use borrow.Author.Tests.{lt-ltb, le-ltb, ltb-false, eq-eqb, ne_eqb, eqb-true}
use Rattle.choice.specs.Choice.{pick}
use Rattle.choice.specs.laws.Cases.{by_test, by_equal}
use Rattle.choice.specs.laws.ChoiceLaws.{pick_ind}
use Rattle.choice.specs.laws.Stores.{stored_same, all-each}
use Rattle.bits.specs.laws.BitLaws.{bits_below}
use Rattle.weights.specs.Weights.{weight_of, weights_by, even_weights}
use Rattle.weights.specs.laws.WeightLaws.{weight_listed}
use Rattle.world.specs.Sizes.{list_bytes}
use Rattle.header.specs.declared.Header.{Header}
use Rattle.header.specs.Headers.{is_second, header_of, header_weights, header_length, header_number, first_sizes}
use Rattle.header.specs.laws.HeaderLaws.{headed}
use Rattle.header.specs.laws.FirstLaws.{FirstSized, first-sized}
use Rattle.header.specs.laws.Editions.{FirstPlayed, first-played}
use Rattle.text.specs.declared.Page.{Page}
use Rattle.text.specs.Page.{Put}
use Rattle.text.specs.laws.Written.{Written}
use Rattle.text.specs.laws.PageLaws.{joined}
use Rattle.spelling.specs.Ranges.{HeaderInRange}
use Rattle.spelling.specs.WriteRead.{refuse, put_out}
use Rattle.spelling.specs.laws.BytesBack.{length-header}
use Rattle.conversion.specs.laws.NumberLaws.{accepted-high, first-none, convert_not_20}
use Rattle.conversion.specs.Conversion.{
  second_bytes,
  other_bytes,
  converted,
  all_one,
  back_number,
  edition_number,
  convert_number,
  convert,
}

-- weights that are all 1 are those of the first edition
all_one_even : (f : ℕ → ℕ) (n : ℕ) → n ≤ 16 → all_one n (weights_by f n) ≡ true → weights_by f n ≡ even_weights n
unfolding all_one even_weights weights_by
all_one_even f n high e =
    stored_same f (λ _. 1) n (replicate 16 0) λ i h.
    sym (weight_listed f n i h (omega arith))
    ∙ eqb-true (weight_of (weights_by f n) i) 1 (all-each (λ j. eqb (weight_of (weights_by f n) j) 1) n e i h)

-- a list that can be carried: its header is accepted, and so it is where every site weighs 1
pub record Carried (list : List ℕ) : Type 0 where
  pub accepted : header_number list ≡ 0
  pub weights : header_weights list ≡ even_weights (header_of list).n
  pub sizes : first_sizes (header_of list) ≡ 0

-- an accepted list whose weights are all 1
even_carried : (list : List ℕ) → header_number list ≡ 0 → header_weights list ≡ even_weights (header_of list).n → Carried list
unfolding first_sizes
even_carried list e even =
    record { accepted = e; weights = even; sizes = rw (← even) (headed list e).sizes }

-- going back
pub record Back (list : List ℕ) : Type 0 where
  pub accepted : header_number list ≡ 0
  pub ones : all_one (header_of list).n (header_weights list) ≡ true

pub back : (list : List ℕ) → back_number list ≡ 0 → Back list
unfolding back_number
back list e =
    let ones : Bool = all_one (header_of list).n (header_weights list) in
    let after : ℕ = pick ones 0 22 in
    let none : (header_number list ≡ 0) × (after ≡ 0) = first-none (header_number list) after e in
    pick_ind (λ x. x ≡ 0 → Back list) ones 0 22 (λ f _. record { accepted = none.0; ones = f }) (λ _ z. absurd (omega arith)) none.1

back_even : (list : List ℕ) → is_second list ≡ true → Back list → header_weights list ≡ even_weights (header_of list).n
unfolding header_weights
back_even list second b =
    rw second (all_one_even (λ i. get_or list (8 + i) 0) (header_of list).n (accepted-high list b.accepted) (rw second at b.ones))

-- whichever way it goes
pub carried : (list : List ℕ) → edition_number list ≡ 0 → Carried list
unfolding edition_number
carried list e =
    by_test (is_second list)
    (λ second. let b : Back list = back list (rw second at e) in even_carried list b.accepted (back_even list second b))
    (λ first. let f : FirstPlayed list = first-played list (rw first at e) in
    even_carried list f.accepted (f.weights_are ∙ ap (λ h. even_weights h.n) (sym f.header_is)))

module _ (list : List ℕ) (e : edition_number list ≡ 0) where
  -- all bytes of its header are there
  pub carried-whole : header_length list ≤ length list
  carried-whole = (headed list (carried list e).accepted).whole

  -- the sizes of its header
  pub carried-sized : FirstSized (header_of list).n (header_of list).commit (header_of list).abort (header_of list).willing
  carried-sized = first-sized (header_of list) (carried list e).sizes

  -- which both editions can show
  pub carried_in_range : HeaderInRange (header_of list)
  carried_in_range =
      let z : FirstSized (header_of list).n (header_of list).commit (header_of list).abort (header_of list).willing = carried-sized in
      record {
        sites = omega (arith, z.high);
        commit = omega (arith, z.high, z.commit-below);
        abort = omega (arith, z.high, z.abort-below);
        willing = omega (arith, z.willing-below, bits_below (header_of list).n z.high);
      }

-- lengths

pub second-length : (h : Header) → length (second_bytes h) ≡ 8 + h.n
unfolding second_bytes
second-length h = omega (arith, length-replicate {A = ℕ} h.n 1)

-- a list has as many bytes after its header in either edition
pub converted_length_lem : (list : List ℕ) → length (converted list) ≡ length (other_bytes (is_second list) (header_of list)) + (length list - header_length list)
unfolding converted
converted_length_lem list =
    length-append (other_bytes (is_second list) (header_of list)) (drop (header_length list) list)
    ∙ ap (λ k. length (other_bytes (is_second list) (header_of list)) + k) (length-drop (header_length list) list)

pub back-length : (list : List ℕ) → is_second list ≡ true → length (converted list) ≡ 5 + (length list - header_length list)
unfolding other_bytes
back-length list second = omega (arith, rw second at (converted_length_lem list), length-header (header_of list))

pub forward_length : (list : List ℕ) → is_second list ≡ false → length (converted list) ≡ 8 + (header_of list).n + (length list - header_length list)
unfolding other_bytes
forward_length list first = omega (arith, rw first at (converted_length_lem list), second-length (header_of list))

-- a weight more
pub ones-more : {p q r : Page} (k : ℕ) → Put p (replicate k 1) q → Put q (1 ∷ []) r → Put p (replicate (k + 1) 1) r
ones-more k w v = rw (← replicate-append-replicate {A = ℕ} k 1 1) (joined w v)

-- there is room for the bytes after the header
pub carried-room :
    {p q : Page} (list : List ℕ) (second : Bool) (h : Header) (first : ℕ) → second ≡ is_second list → h ≡ header_of list →
    first ≡ header_length list → Put p (other_bytes second h) q → p.at + length (converted list) ≤ length p.buffer.now →
    q.at + length (take (length list - first) (drop first list)) ≤ length q.buffer.now
carried-room list second h first same-edition same-header same_first w room =
    omega (
      arith,
      w.written.ends,
      w.length-is,
      ap (λ s. length (other_bytes s h)) same-edition,
      ap (λ x. length (other_bytes (is_second list) x)) same-header,
      converted_length_lem list,
      ap length (part_to_end list first),
      length-drop first list,
    )

-- the header in the other edition, and every byte after it
pub carried-put :
    {p q r : Page} (list : List ℕ) (second : Bool) (h : Header) (first : ℕ) → second ≡ is_second list → h ≡ header_of list →
    first ≡ header_length list → Put p (other_bytes second h) q → Put q (take (length list - first) (drop first list)) r →
    Put p (converted list) r
unfolding converted
carried-put list second h first same-edition same-header same_first w v =
    rw (← same-edition, ← same-header, ← same_first)
    (joined w (rw (part_to_end list first) at v))

-- what each return of the call leaves
module _ (list b : List ℕ) where
  pub convert-refused : (convert_number list ≡ 0 → ⊥) → convert list b ≡ refuse (convert_number list) 0 b
  unfolding convert
  convert-refused bad = rw (ne_eqb (convert_number list) 0 bad)

  module _ (good : convert_number list ≡ 0) where
    pub convert-short : length b < length (converted list) → convert list b ≡ refuse 20 0 b
    unfolding convert put_out
    convert-short short = rw (eq-eqb (convert_number list) 0 good, lt-ltb (length b) (length (converted list)) short)

    pub convert-done :
        (after : List ℕ) (next : ℕ) → length (converted list) ≤ length b → Written b 0 (converted list) after next →
        convert list b ≡ record { answer = record { number = 0; place = length list; length = length (converted list) }; buffer = after }
    unfolding convert put_out
    convert-done after next room w =
        rw (eq-eqb (convert_number list) 0 good, le-ltb (length b) (length (converted list)) room, w.holds)

-- a number of an edition comes before the converted list's length
pub record Converts (list : List ℕ) : Type 0 where
  pub carries : edition_number list ≡ 0
  pub fits : length (converted list) ≤ list_bytes

pub converts : (list : List ℕ) → convert_number list ≡ 0 → Converts list
unfolding convert_number
converts list e =
    let long : Bool = ltb list_bytes (length (converted list)) in
    let after : ℕ = pick long 1 0 in
    let none : (edition_number list ≡ 0) × (after ≡ 0) = first-none (edition_number list) after e in
    pick_ind (λ x. x ≡ 0 → Converts list) long 1 0 (λ _ z. absurd (omega arith))
    (λ f _. record { carries = none.0; fits = ltb-false list_bytes (length (converted list)) f }) none.1

pub converting : (list : List ℕ) → Converts list → convert_number list ≡ 0
unfolding convert_number
converting list c = rw (eq-eqb (edition_number list) 0 c.carries, le-ltb list_bytes (length (converted list)) c.fits)

-- in a buffer with room for the longest list 20 is not met
pub convert-room : (list b : List ℕ) → list_bytes ≤ length b → (convert list b).answer.number ≡ 20 → ⊥
unfolding convert put_out refuse
convert-room list b room =
    by_equal (convert_number list) 0
    (λ good. rw (eq-eqb (convert_number list) 0 good, le-ltb (length b) (length (converted list)) (omega (arith, (converts list good).fits))) (λ z. omega arith))
    (λ bad. rw (ne_eqb (convert_number list) 0 bad) (convert_not_20 list))
