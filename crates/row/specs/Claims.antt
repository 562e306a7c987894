-- What is claimed of rows in the store: what is written reads back, and all else stays.
use Rattle.std.specs.Prelude.{ℕ, ◌+◌, ◌≤◌, ◌<◌, List, ◌≡◌, length, get_or}
use Rattle.row.specs.declared.Row.{Row}
use Rattle.row.specs.Rows.{row_place, put_row, get_row}

-- a row of sixteen codes, whose numbers fit their bytes, written as row k of a store with room for it
abbrev pub RowReadsBack : Type 0
RowReadsBack =
    (store : List ℕ) (k : ℕ) (r : Row) → row_place (k + 1) ≤ length store → r.sender < 256 → r.destinations < 65536 →
    length r.codes ≡ 16 → get_row (put_row store k r) k ≡ r

-- every other row
abbrev pub OtherRowsStay : Type 0
OtherRowsStay = (store : List ℕ) (k : ℕ) (r : Row) (j : ℕ) → (j ≡ k → ⊥) → get_row (put_row store k r) j ≡ get_row store j

-- the bytes before the row and beyond it, and the store's length
pub record Around (store : List ℕ) (k : ℕ) (r : Row) : Type 0 where
  pub same_length : length (put_row store k r) ≡ length store
  pub below : (b : ℕ) → b < row_place k → get_or (put_row store k r) b 0 ≡ get_or store b 0
  pub beyond : (b : ℕ) → row_place (k + 1) ≤ b → get_or (put_row store k r) b 0 ≡ get_or store b 0

abbrev pub BytesAroundStay : Type 0
BytesAroundStay = (store : List ℕ) (k : ℕ) (r : Row) → Around store k r
