-- Each way to the numbers of converting.
use Rattle.std.specs.Prelude.{ℕ, ◌≤◌, ◌<◌, Bool, true, false, List, ◌≡◌, ltb, eqb, length}
use Rattle.std.proofs.lemmas.Bool.{false≢true}
use Rattle.std.proofs.Math.Path.{ap}
use Rattle.std.proofs.Common.{sym, ◌∙◌, arith}
use borrow.Author.Tests.{lt-ltb, le-ltb, eq-eqb, ne_eqb, eqb-true, eqb-false}
use Rattle.choice.specs.Choice.{pick}
use Rattle.choice.specs.laws.ChoiceLaws.{pick_ind}
use Rattle.world.specs.Sizes.{list_bytes}
use Rattle.world.specs.laws.SizesLaws.{Sized}
use Rattle.header.specs.declared.Header.{Header}
use Rattle.header.specs.Headers.{is_second, header_of, header_weights, header_number, first_number}
use Rattle.header.specs.laws.HeaderLaws.{headed, header-sized, header_stop, header_stop_lem, first_small}
use Rattle.conversion.specs.Conversion.{converted, all_one, first_of, back_number, edition_number, convert_number}

-- an accepted header has at most sixteen sites
pub accepted-high : (list : List ℕ) → header_number list ≡ 0 → (header_of list).n ≤ 16
accepted-high list e =
    let z : Sized (header_of list).n (header_weights list) (header_of list).commit (header_of list).abort (header_of list).willing =
    header-sized (header_of list) (header_weights list) (headed list e).sizes in
    z.high

-- a number that is not 0 comes first, and where there is none both are 0
first-stands : (a b number : ℕ) → number ≡ a → (number ≡ 0 → ⊥) → number ≡ first_of a b
first-stands a b number e bad = rw (ne_eqb a 0 (λ z. bad (e ∙ z))) e

pub first-none : (a b : ℕ) → first_of a b ≡ 0 → (a ≡ 0) × (b ≡ 0)
first-none a b =
    pick_ind (λ x. x ≡ 0 → (a ≡ 0) × (b ≡ 0)) (eqb a 0) b a (λ e z. (eqb-true a 0 e, z)) (λ e z. absurd (eqb-false a 0 e z))

module _ (list : List ℕ) where
  pub back-header : (number : ℕ) → number ≡ header_number list → (number ≡ 0 → ⊥) → number ≡ back_number list
  unfolding back_number
  back-header number e bad =
      first-stands (header_number list) (pick (all_one (header_of list).n (header_weights list)) 0 22) number e bad

  pub back-ones :
      (h : Header) (weights : List ℕ) (ones : Bool) → header_number list ≡ 0 → h ≡ header_of list → weights ≡ header_weights list →
      ones ≡ all_one h.n weights → pick ones 0 22 ≡ back_number list
  unfolding back_number
  back-ones h weights ones e same-header same_weights_lem test =
      rw (eq-eqb (header_number list) 0 e)
      (ap (λ t. pick t 0 22) (test ∙ ap (λ x. all_one x.n weights) same-header ∙ ap (all_one (header_of list).n) same_weights_lem))

  pub convert_edition : (number : ℕ) → number ≡ edition_number list → (number ≡ 0 → ⊥) → number ≡ convert_number list
  unfolding convert_number
  convert_edition number e bad =
      first-stands (edition_number list) (pick (ltb list_bytes (length (converted list))) 1 0) number e bad

  pub convert-long : edition_number list ≡ 0 → list_bytes < length (converted list) → 1 ≡ convert_number list
  unfolding convert_number
  convert-long e long = rw (eq-eqb (edition_number list) 0 e, lt-ltb list_bytes (length (converted list)) long)

  pub convert-fits : edition_number list ≡ 0 → length (converted list) ≤ list_bytes → 0 ≡ convert_number list
  unfolding convert_number
  convert-fits e fits = rw (eq-eqb (edition_number list) 0 e, le-ltb list_bytes (length (converted list)) fits)

-- the laws by which the code's test of the length settles the number
pub ruleset lengths = (convert-long, convert-fits)

-- none of them is 20

abbrev Not20 : ℕ → Type 0
Not20 k = k ≡ 20 → ⊥

pick_not_20 : (t : Bool) (a b : ℕ) → Not20 a → Not20 b → Not20 (pick t a b)
pick_not_20 true a b p q = p
pick_not_20 false a b p q = q

header_not_20 : (list : List ℕ) → Not20 (header_number list)
unfolding header_stop
header_not_20 list e = false≢true (ap header_stop (sym e) ∙ header_stop_lem list)

pub convert_not_20 : (list : List ℕ) → convert_number list ≡ 20 → ⊥
unfolding convert_number edition_number back_number
convert_not_20 list =
    let edition : Not20 (edition_number list) =
    pick_not_20 (is_second list) (back_number list) (first_number list)
    (pick_not_20 (eqb (header_number list) 0) (pick (all_one (header_of list).n (header_weights list)) 0 22) (header_number list)
    (pick_not_20 (all_one (header_of list).n (header_weights list)) 0 22 (λ z. omega arith) (λ z. omega arith)) (header_not_20 list))
    (λ z. omega (arith, first_small list)) in
    pick_not_20 (eqb (edition_number list) 0) (pick (ltb list_bytes (length (converted list))) 1 0) (edition_number list)
    (pick_not_20 (ltb list_bytes (length (converted list))) 1 0 (λ z. omega arith) (λ z. omega arith)) edition
