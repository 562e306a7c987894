-- Laws of a list's length and header.
use Rattle.std.specs.Prelude.{ℕ, ◌+◌, ◌^◌, ◌≤◌, Bool, true, false, List, ◌≡◌, refl, ltb, leb, eqb, length}
use Rattle.std.proofs.Common.{sym, arith, le-ltb, ltb-false, leb-true}
use Rattle.choice.specs.Choice.{pick, either}
use Rattle.choice.specs.laws.Cases.{by_test}
use Rattle.choice.specs.laws.ChoiceLaws.{pick_ind}
use Rattle.weights.specs.Weights.{total_weight, largest_weight, valid_weights, even_weights}
use Rattle.weights.specs.laws.WeightLaws.{weighing, even_weighed}
use Rattle.world.specs.Sizes.{list_bytes, sites_fit, quorums_fit, sizes_number}
use Rattle.world.specs.laws.SizesLaws.{Sized, sized, fit-sites}
use Rattle.header.specs.declared.Header.{Header}
use Rattle.header.specs.Headers.{
  first_header,
  is_second,
  header_of,
  header_weights,
  header_length,
  header_sizes,
  is_cut,
  after_length,
  header_number,
  first_sizes,
  first_number,
}

-- a header that none of 1 to 5 and 21 refuses
pub record Headed (list : List ℕ) : Type 0 where
  pub small : length list ≤ list_bytes
  pub header : 5 ≤ length list
  pub sizes : header_sizes (header_of list) (header_weights list) ≡ 0
  pub some : 5 ≤ header_length list
  pub whole : header_length list ≤ length list

-- its sizes
pub header-sized :
    (h : Header) (weights : List ℕ) → header_sizes h weights ≡ 0 → Sized h.n weights h.commit h.abort h.willing
unfolding header_sizes
header-sized h weights e = sized h.n weights h.commit h.abort h.willing e

-- a header of n that is not cut is whole
not_cut : (list : List ℕ) → is_cut list ≡ false → sites_fit (header_of list).n ≡ true → header_length list ≤ length list
unfolding is_cut
not_cut list uncut fit = ltb-false (length list) (header_length list) (rw fit at uncut)

pub length_some : (list : List ℕ) → 5 ≤ header_length list
unfolding header_length
length_some list = pick_ind (λ x. 5 ≤ x) (is_second list) (8 + (header_of list).n) 5 (λ _. omega arith) (λ _. omega arith)

-- a length that neither 1 nor 2 refuses
record Long (list : List ℕ) (number : ℕ) : Type 0 where
  pub small : length list ≤ list_bytes
  pub header : 5 ≤ length list
  pub rest : number ≡ 0

long : (list : List ℕ) (number : ℕ) → after_length list number ≡ 0 → Long list number
long list number =
    pick_ind (λ x. x ≡ 0 → Long list number) (ltb list_bytes (length list)) 1 (pick (ltb (length list) 5) 2 number)
    (λ _ z. absurd (omega arith)) λ small.
    pick_ind (λ x. x ≡ 0 → Long list number) (ltb (length list) 5) 2 number (λ _ z. absurd (omega arith)) λ header rest.
    record { small = ltb-false list_bytes (length list) small; header = ltb-false (length list) 5 header; rest = rest }

-- a length's refusal comes before any other number, and else that number stands
length-first : (list : List ℕ) (number : ℕ) → (after_length list 0 ≡ 0 → ⊥) → after_length list 0 ≡ after_length list number
length-first list number =
    by_test (ltb list_bytes (length list)) (λ e bad. rw e)
    (λ e. by_test (ltb (length list) 5) (λ f bad. rw (e, f)) (λ f bad. absurd (bad (rw (e, f)))))

length-passed : (list : List ℕ) (number : ℕ) → after_length list 0 ≡ 0 → after_length list number ≡ number
length-passed list number e =
    let l : Long list 0 = long list 0 e in
    rw (le-ltb list_bytes (length list) l.small, le-ltb (length list) 5 l.header)

-- each way to a list's number

pub header-short : (list : List ℕ) → (after_length list 0 ≡ 0 → ⊥) → after_length list 0 ≡ header_number list
unfolding header_number
header-short list bad = length-first list (pick (is_cut list) 2 (header_sizes (header_of list) (header_weights list))) bad

pub header_cut : (list : List ℕ) → after_length list 0 ≡ 0 → is_cut list ≡ true → 2 ≡ header_number list
unfolding header_number
header_cut list e cut = rw cut (sym (length-passed list 2 e))

pub header-whole :
    (list : List ℕ) → after_length list 0 ≡ 0 → is_cut list ≡ false → header_sizes (header_of list) (header_weights list) ≡ header_number list
unfolding header_number
header-whole list e uncut = rw uncut (sym (length-passed list (header_sizes (header_of list) (header_weights list)) e))

pub first_short : (list : List ℕ) → (after_length list 0 ≡ 0 → ⊥) → after_length list 0 ≡ first_number list
unfolding first_number
first_short list bad = length-first list (first_sizes (first_header list)) bad

pub first-whole : (list : List ℕ) → after_length list 0 ≡ 0 → first_sizes (first_header list) ≡ first_number list
unfolding first_number
first-whole list e = sym (length-passed list (first_sizes (first_header list)) e)

pub headed : (list : List ℕ) → header_number list ≡ 0 → Headed list
unfolding header_number
headed list e =
    let sizes : ℕ = header_sizes (header_of list) (header_weights list) in
    let l : Long list (pick (is_cut list) 2 sizes) = long list (pick (is_cut list) 2 sizes) e in
    pick_ind (λ x. x ≡ 0 → Headed list) (is_cut list) 2 sizes (λ _ z. absurd (omega arith))
    (λ uncut fit. record {
      small = l.small;
      header = l.header;
      sizes = fit;
      some = length_some list;
      whole =
          let z : Sized (header_of list).n (header_weights list) (header_of list).commit (header_of list).abort (header_of list).willing =
          header-sized (header_of list) (header_weights list) fit in
          not_cut list uncut (fit-sites (header_of list).n z.low z.high);
    })
    l.rest

-- a first-edition header that none of 1 to 5 refuses
pub record FirstHeaded (list : List ℕ) : Type 0 where
  pub small : length list ≤ list_bytes
  pub header : 5 ≤ length list
  pub sizes : first_sizes (first_header list) ≡ 0

pub first-headed : (list : List ℕ) → first_number list ≡ 0 → FirstHeaded list
unfolding first_number
first-headed list e =
    let l : Long list (first_sizes (first_header list)) = long list (first_sizes (first_header list)) e in
    record { small = l.small; header = l.header; sizes = l.rest }

-- the number is one of the table

-- 1 to 5 or 21, or none
unfoldable pub header_stop : ℕ → Bool
header_stop k = either (leb k 5) (eqb k 21)

stop-pick : (t : Bool) (a b : ℕ) → header_stop a ≡ true → header_stop b ≡ true → header_stop (pick t a b) ≡ true
stop-pick true a b p q = p
stop-pick false a b p q = q

pub header_stop_lem : (list : List ℕ) → header_stop (header_number list) ≡ true
unfolding header_number header_sizes sizes_number header_stop
header_stop_lem list = search stop-pick depth 12

-- of the first edition it is 1 to 5, or none: each site weighs 1, which is not refused

small-pick : (t : Bool) (a b : ℕ) → leb a 5 ≡ true → leb b 5 ≡ true → leb (pick t a b) 5 ≡ true
small-pick true a b p q = p
small-pick false a b p q = q

pub first_sizes-small : (h : Header) → first_sizes h ≤ 5
unfolding first_sizes header_sizes sizes_number
first_sizes-small h =
    let valid : valid_weights h.n (even_weights h.n) ≡ true = weighing h.n (even_weights h.n) (even_weighed h.n) in
    let weights : List ℕ = even_weights h.n in
    let last : ℕ = pick (ltb h.willing (2 ^ h.n)) 0 5 in
    leb-true (first_sizes h) 5
    (rw valid
    (small-pick (sites_fit h.n) (pick (quorums_fit (total_weight weights) (largest_weight weights) h.commit h.abort) last 4) 3
    (small-pick (quorums_fit (total_weight weights) (largest_weight weights) h.commit h.abort) last 4 (small-pick (ltb h.willing (2 ^ h.n)) 0 5 refl refl) refl) refl))

pub first_small : (list : List ℕ) → first_number list ≤ 5
unfolding first_number
first_small list =
    pick_ind (λ x. x ≤ 5) (ltb list_bytes (length list)) 1 (pick (ltb (length list) 5) 2 (first_sizes (first_header list)))
    (λ _. omega arith) λ _.
    pick_ind (λ x. x ≤ 5) (ltb (length list) 5) 2 (first_sizes (first_header list)) (λ _. omega arith) λ _.
    first_sizes-small (first_header list)
