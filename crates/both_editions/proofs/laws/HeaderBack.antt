-- A header in either edition, read back from its bytes and spelled by them.
use Rattle.std.specs.Prelude.{ℕ, zero, suc, ◌+◌, ◌*◌, ◌/◌, ◌%◌, ◌≤◌, ◌<◌, true, false, List, ◌∷◌, ◌++◌, ◌≡◌, length, drop, replicate}
use Rattle.std.proofs.Math.Path.{refl, sym}
use Rattle.std.proofs.Common.{ap, ◌∙◌, add-zero, arith, drop-cons, get_or-drop, drop_at}
use Rattle.std.proofs.lemmas.List.{length-replicate}
use Rattle.std.proofs.Math.ListN.{get_or, get_or-replicate, get_or-append}
use borrow.Author.Tests.{ne_eqb, eqb-true}
use Rattle.choice.specs.laws.Stores.{stored_same}
use Rattle.word.specs.Words.{word_at}
use Rattle.weights.specs.Weights.{weights_by, even_weights}
use Rattle.header.specs.declared.Header.{Header}
use Rattle.header.specs.Headers.{second_header, is_second}
use Rattle.spelling.specs.Spelling.{header_bytes}
use Rattle.spelling.specs.laws.BytesBack.{whole, low_byte, high_byte, later_byte}
use Rattle.round_trip.specs.Claims.{Bytes}
use Rattle.conversion.specs.Conversion.{second_bytes}
use Rattle.conversion.specs.laws.ConversionLaws.{second-length}

-- READ BACK: the bytes of a second-edition header that a list begins with
module _ (h : Header) (t : List ℕ) where
  pub second-is_second : is_second (second_bytes h ++ t) ≡ true
  unfolding is_second second_bytes
  second-is_second = refl

  pub second_reads : second_header (second_bytes h ++ t) ≡ h
  unfolding second_bytes second_header word_at
  second_reads = rw (whole h.commit.0, whole h.abort.0, whole h.willing)

  weight-reads : (i : ℕ) → i < h.n → get_or (second_bytes h ++ t) (8 + i) 0 ≡ 1
  unfolding second_bytes
  weight-reads i below =
      sym (get_or-drop 8 (second_bytes h ++ t) i 0)
      ∙ get_or-append (replicate h.n 1) t 0 i (rw (length-replicate {A = ℕ} h.n 1) below) ∙ get_or-replicate h.n i 1 0 below

  pub weights-read : weights_by (λ i. get_or (second_bytes h ++ t) (8 + i) 0) h.n ≡ even_weights h.n
  unfolding even_weights weights_by
  weights-read = stored_same (λ i. get_or (second_bytes h ++ t) (8 + i) 0) (λ _. 1) h.n (replicate 16 0) weight-reads

  pub second-left : drop (8 + h.n) (second_bytes h ++ t) ≡ t
  second-left = drop_at (second_bytes h) t (8 + h.n) (second-length h)

  -- a first-edition header's first byte is n
  pub first-is-first : h.n ≤ 16 → is_second (header_bytes h ++ t) ≡ false
  unfolding is_second header_bytes
  first-is-first high = ne_eqb h.n 130 (omega arith)

  pub first-left : drop 5 (header_bytes h ++ t) ≡ t
  unfolding header_bytes
  first-left = refl

-- SPELLED: what is left of a list where n weights of 1 stand
ones_spelt :
    (list : List ℕ) (at n : ℕ) → at + n ≤ length list → ((i : ℕ) → i < n → get_or list (at + i) 0 ≡ 1) →
    drop at list ≡ replicate n 1 ++ drop (at + n) list
ones_spelt list at zero room each = let e : at + 0 ≡ at = omega arith in rw e
ones_spelt list at (suc n) room each =
    let first : get_or list at 0 ≡ 1 = rw add-zero at (each 0 (omega arith)) in
    let e : at + suc n ≡ suc at + n = omega arith in
    drop-cons list at 0 (omega arith)
    ∙ rw (first, e)
    (ap (λ l. 1 ∷ l) (ones_spelt list (suc at) n (omega arith) (λ i h. let f : suc at + i ≡ at + suc i = omega arith in rw f (each (suc i) (omega arith)))))

-- a second-edition header that is read, with weights of 1, is what the list begins with
pub second_spelt :
    (list : List ℕ) → Bytes list → is_second list ≡ true → 8 + (second_header list).n ≤ length list →
    ((i : ℕ) → i < (second_header list).n → get_or list (8 + i) 0 ≡ 1) →
    list ≡ second_bytes (second_header list) ++ drop (8 + (second_header list).n) list
unfolding second_bytes second_header word_at is_second
second_spelt list bytes second room ones =
    let first : get_or list 0 0 ≡ 130 = eqb-true (get_or list 0 0) 130 second in
    let low : (at : ℕ) → (get_or list at 0 + 256 * get_or list (at + 1) 0) % 256 ≡ get_or list at 0 =
    λ at. low_byte (get_or list at 0) (get_or list (at + 1) 0) (bytes at) in
    let high : (at : ℕ) → (get_or list at 0 + 256 * get_or list (at + 1) 0) / 256 ≡ get_or list (at + 1) 0 =
    λ at. high_byte (get_or list at 0) (get_or list (at + 1) 0) (bytes at) in
    rw (low 2, low 4, low 6)
    (rw (high 2, high 4, high 6)
    (later_byte list 0 0 (omega arith)
    ∙ (rw (
      first,
      later_byte list 0 1 (omega arith),
      later_byte list 0 2 (omega arith),
      later_byte list 0 3 (omega arith),
      later_byte list 0 4 (omega arith),
      later_byte list 0 5 (omega arith),
      later_byte list 0 6 (omega arith),
      later_byte list 0 7 (omega arith),
      ones_spelt list 8 (get_or list 1 0) room ones,
    ))))
