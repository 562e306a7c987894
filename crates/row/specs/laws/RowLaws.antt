-- Laws of rows in the store: what is written reads back, and nothing else changes.
use Rattle.std.specs.Prelude.{ℕ, suc, ◌+◌, ◌*◌, ◌/◌, ◌%◌, ◌≤◌, ◌<◌, List, ◌∷◌, ◌≢◌, ◌≡◌, length, set}
use Rattle.std.proofs.Common.{ap, sym, ◌∙◌, suc-add, add-zero, add_assoc, div-lt_iff_lt-mul, mod-eq_of_lt, arith, length-set, lt-length-set, get_or-set_same, get_or-set_other, ext_get_or}
use Rattle.std.proofs.Math.Nat.{div-add-mod}
use Rattle.std.proofs.Math.ListN.{get_or}
use Rattle.row.specs.declared.Row.{Row}
use Rattle.row.specs.Claims.{RowReadsBack, OtherRowsStay, BytesAroundStay}
use Rattle.code_bytes.specs.CodeBytes.{codes_from}
use Rattle.code_bytes.specs.laws.CodeBytesLaws.{put_codes-length, put_codes_else, put_codes-at, codes_from-length, codes_from-at, codes_from-same}
use Rattle.row.specs.Rows.{row_place, put_head, put_row_at, put_row, row_at, get_row}

-- the head

pub put_head-length : (store : List ℕ) (at : ℕ) (r : Row) → length (put_head store at r) ≡ length store
unfolding put_head
put_head-length store at r = simp length-set

pub put_head_else :
    (store : List ℕ) (at : ℕ) (r : Row) (b : ℕ) → ((i : ℕ) → i < 4 → b ≡ at + i → ⊥) →
    get_or (put_head store at r) b 0 ≡ get_or store b 0
unfolding put_head
put_head_else store at r b h =
    get_or-set_other (set (set (set store at r.kind) (at + 1) (r.sender % 256)) (at + 2) (r.destinations % 256)) (at + 3) b
    (r.destinations / 256 % 256) 0 (h 3 (omega arith))
    ∙ get_or-set_other (set (set store at r.kind) (at + 1) (r.sender % 256)) (at + 2) b (r.destinations % 256) 0
    (h 2 (omega arith))
    ∙ get_or-set_other (set store at r.kind) (at + 1) b (r.sender % 256) 0 (h 1 (omega arith))
    ∙ get_or-set_other store at b r.kind 0 (λ e. h 0 (omega arith) (omega arith))

pub put_head-kind : (store : List ℕ) (at : ℕ) (r : Row) → at + 4 ≤ length store → get_or (put_head store at r) at 0 ≡ r.kind
unfolding put_head
put_head-kind store at r room =
    let p : at ≢ at + 1 = omega arith in
    let q : at ≢ at + 2 = omega arith in
    let t : at ≢ at + 3 = omega arith in
    let l : at < length store = omega arith in
    simp (get_or-set_other, get_or-set_same)

pub put_head-sender :
    (store : List ℕ) (at : ℕ) (r : Row) → at + 4 ≤ length store → get_or (put_head store at r) (at + 1) 0 ≡ r.sender % 256
unfolding put_head
put_head-sender store at r room =
    let q : at + 1 ≢ at + 2 = omega arith in
    let t : at + 1 ≢ at + 3 = omega arith in
    let l : at + 1 < length store = omega arith in
    simp (get_or-set_other, get_or-set_same, lt-length-set)

pub put_head-low :
    (store : List ℕ) (at : ℕ) (r : Row) → at + 4 ≤ length store → get_or (put_head store at r) (at + 2) 0 ≡ r.destinations % 256
unfolding put_head
put_head-low store at r room =
    let t : at + 2 ≢ at + 3 = omega arith in
    let l : at + 2 < length store = omega arith in
    simp (get_or-set_other, get_or-set_same, lt-length-set)

pub put_head-high :
    (store : List ℕ) (at : ℕ) (r : Row) → at + 4 ≤ length store →
    get_or (put_head store at r) (at + 3) 0 ≡ r.destinations / 256 % 256
unfolding put_head
put_head-high store at r room =
    let l : at + 3 < length store = omega arith in
    simp (get_or-set_same, lt-length-set)

-- the row at a place

pub put_row_at-length : (store : List ℕ) (at : ℕ) (r : Row) → length (put_row_at store at r) ≡ length store
unfolding put_row_at
put_row_at-length store at r =
    put_codes-length 16 (put_head store at r) (at + 4) r.codes ∙ put_head-length store at r

pub put_row_at_else :
    (store : List ℕ) (at : ℕ) (r : Row) (b : ℕ) → ((i : ℕ) → i < 20 → b ≡ at + i → ⊥) →
    get_or (put_row_at store at r) b 0 ≡ get_or store b 0
unfolding put_row_at
put_row_at_else store at r b h =
    put_codes_else 16 (put_head store at r) (at + 4) r.codes b (λ i l e. h (4 + i) (omega arith) (omega arith))
    ∙ put_head_else store at r b (λ i l. h i (omega arith))

-- the head lies before the codes
put_row_at-head :
    (store : List ℕ) (at : ℕ) (r : Row) (b : ℕ) → b < at + 4 → get_or (put_row_at store at r) b 0 ≡ get_or (put_head store at r) b 0
unfolding put_row_at
put_row_at-head store at r b h = put_codes_else 16 (put_head store at r) (at + 4) r.codes b (λ i l e. omega arith)

-- the same row, at two places
pub row_at-same :
    (s t : List ℕ) (p q : ℕ) → ((i : ℕ) → i < 20 → get_or s (p + i) 0 ≡ get_or t (q + i) 0) → row_at s p ≡ row_at t q
unfolding row_at
row_at-same s t p q h =
    let k : get_or s p 0 ≡ get_or t q 0 = simp add-zero at (h 0 (omega arith)) in
    let c : codes_from 16 s (p + 4) ≡ codes_from 16 t (q + 4) =
    codes_from-same 16 s t (p + 4) (q + 4) (λ i l. simp add_assoc (h (4 + i) (omega arith))) in
    rw (k, h 1 (omega arith), h 2 (omega arith), h 3 (omega arith), c)

-- a row behind one byte more
pub row_at_behind : (x : ℕ) (l : List ℕ) (at : ℕ) → row_at (x ∷ l) (suc at) ≡ row_at l at
row_at_behind x l at = row_at-same (x ∷ l) l (suc at) at (λ i h. ap (λ k. get_or (x ∷ l) k 0) (suc-add at i))

-- row k of the store

pub put_row-length : (store : List ℕ) (k : ℕ) (r : Row) → length (put_row store k r) ≡ length store
unfolding put_row
put_row-length store k r = put_row_at-length store (row_place k) r

pub put_row-below :
    (store : List ℕ) (k : ℕ) (r : Row) (b : ℕ) → b < row_place k → get_or (put_row store k r) b 0 ≡ get_or store b 0
unfolding put_row
put_row-below store k r b h = put_row_at_else store (row_place k) r b (λ i l e. omega arith)

pub put_row-beyond :
    (store : List ℕ) (k : ℕ) (r : Row) (b : ℕ) → row_place (k + 1) ≤ b → get_or (put_row store k r) b 0 ≡ get_or store b 0
unfolding put_row row_place
put_row-beyond store k r b h = put_row_at_else store (row_place k) r b (λ i l e. omega arith)

-- another row stays
pub get_row_else :
    (store : List ℕ) (k : ℕ) (r : Row) (j : ℕ) → (j ≡ k → ⊥) → get_row (put_row store k r) j ≡ get_row store j
unfolding put_row get_row row_place
get_row_else store k r j h =
    row_at-same (put_row store k r) store (row_place j) (row_place j)
    (λ i l. put_row_at_else store (row_place k) r (row_place j + i) (λ m n e. h (omega arith)))

pub row_same :
    (a b : Row) → a.kind ≡ b.kind → a.sender ≡ b.sender → a.destinations ≡ b.destinations → a.codes ≡ b.codes → a ≡ b
row_same a b p q s t =
    let e : ◌≡◌ {A = Row}
    (record { kind = a.kind; sender = a.sender; destinations = a.destinations; codes = a.codes })
    (record { kind = b.kind; sender = b.sender; destinations = b.destinations; codes = b.codes }) = cc in
    e

-- sixteen codes are read from any store
pub get_row-length : (store : List ℕ) (k : ℕ) → length (get_row store k).codes ≡ 16
unfolding get_row row_at
get_row-length store k = codes_from-length 16 store (row_place k + 4)

-- what is written reads back
module _ (store : List ℕ) (k : ℕ) (r : Row) (room : row_place (k + 1) ≤ length store) where
  pub get_row-kind : (get_row (put_row store k r) k).kind ≡ r.kind
  unfolding put_row get_row row_place row_at
  get_row-kind = put_row_at-head store (20 * k) r (20 * k) (omega arith) ∙ put_head-kind store (20 * k) r (omega arith)

  sender_byte : (get_row (put_row store k r) k).sender ≡ r.sender % 256
  unfolding put_row get_row row_place row_at
  sender_byte = put_row_at-head store (20 * k) r (20 * k + 1) (omega arith) ∙ put_head-sender store (20 * k) r (omega arith)

  pub get_row-sender : r.sender < 256 → (get_row (put_row store k r) k).sender ≡ r.sender
  get_row-sender small = sender_byte ∙ mod-eq_of_lt small

  pub get_row_code : (i : ℕ) → i < 16 → get_or (get_row (put_row store k r) k).codes i 0 ≡ get_or r.codes i 0
  unfolding put_row get_row row_place row_at put_row_at
  get_row_code i h =
      codes_from-at 16 (put_row_at store (20 * k) r) (20 * k + 4) i h (omega arith)
      ∙ put_codes-at 16 (put_head store (20 * k) r) (20 * k + 4) r.codes i h (rw put_head-length (omega arith))

  destination_bytes : (get_row (put_row store k r) k).destinations ≡ r.destinations % 256 + 256 * (r.destinations / 256 % 256)
  unfolding put_row get_row row_place row_at
  destination_bytes =
      let low : get_or (put_row_at store (20 * k) r) (20 * k + 2) 0 ≡ r.destinations % 256 =
      put_row_at-head store (20 * k) r (20 * k + 2) (omega arith) ∙ put_head-low store (20 * k) r (omega arith) in
      let high : get_or (put_row_at store (20 * k) r) (20 * k + 3) 0 ≡ r.destinations / 256 % 256 =
      put_row_at-head store (20 * k) r (20 * k + 3) (omega arith) ∙ put_head-high store (20 * k) r (omega arith) in
      omega (arith, low, high)

  pub get_row-destinations : r.destinations < 65536 → (get_row (put_row store k r) k).destinations ≡ r.destinations
  get_row-destinations small =
      let small-high : r.destinations / 256 < 256 = (div-lt_iff_lt-mul {k = 256} (omega arith)).1 small in
      omega (arith, destination_bytes, mod-eq_of_lt small-high, div-add-mod r.destinations 256)

  pub get_row-same :
      r.sender < 256 → r.destinations < 65536 → length r.codes ≡ 16 → get_row (put_row store k r) k ≡ r
  get_row-same s d l =
      row_same (get_row (put_row store k r) k) r get_row-kind (get_row-sender s) (get_row-destinations d)
      (ext_get_or 0 (get_row (put_row store k r) k).codes r.codes (get_row-length (put_row store k r) k ∙ sym l)
      (λ i h. get_row_code i (omega (arith, get_row-length (put_row store k r) k))))

-- a row written at two places, of the same store or of two, reads the same at both
pub row-again :
    (s t : List ℕ) (j k : ℕ) (r : Row) → row_place (j + 1) ≤ length s → row_place (k + 1) ≤ length t →
    get_row (put_row s j r) j ≡ get_row (put_row t k r) k
row-again s t j k r p q =
    row_same (get_row (put_row s j r) j) (get_row (put_row t k r) k) (get_row-kind s j r p ∙ sym (get_row-kind t k r q))
    (sender_byte s j r p ∙ sym (sender_byte t k r q)) (destination_bytes s j r p ∙ sym (destination_bytes t k r q))
    (ext_get_or 0 (get_row (put_row s j r) j).codes (get_row (put_row t k r) k).codes
    (get_row-length (put_row s j r) j ∙ sym (get_row-length (put_row t k r) k))
    (λ i h. let low : i < 16 = omega (arith, get_row-length (put_row s j r) j) in
    get_row_code s j r p i low ∙ sym (get_row_code t k r q i low)))

-- the claims

pub row_reads-back : RowReadsBack
row_reads-back store k r room s d l = get_row-same store k r room s d l

pub other-rows_stay : OtherRowsStay
other-rows_stay = get_row_else

pub bytes_around_stay : BytesAroundStay
bytes_around_stay store k r =
    record { same_length = put_row-length store k r; below = put_row-below store k r; beyond = put_row-beyond store k r }
