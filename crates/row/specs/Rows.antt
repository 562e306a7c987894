-- A row: kind, sender, destinations as 16 bits low byte first, 16 codes. Twenty bytes in the store.
-- Kinds: 1 prepare, 2 vote, 3 join commit group, 4 join abort group, 5 in-group, 6 outcome, 7 outcome-ack.
use Rattle.std.specs.Prelude.{ℕ, zero, suc, ◌+◌, ◌*◌, ◌/◌, ◌%◌, Bool, true, List, ltb, leb, get_or, set, replicate}
use Rattle.choice.specs.Choice.{both}
use Rattle.code_bytes.specs.CodeBytes.{put_codes, codes_from}
use Rattle.row.specs.declared.Row.{Row}

-- no row: kind 0
unfoldable pub no_row : Row
no_row = record { kind = 0; sender = 0; destinations = 0; codes = replicate 16 0 }

-- where row k lies in the store
unfoldable pub row_place : ℕ → ℕ
row_place k = 20 * k

-- the store with kind, sender and destinations written at a place
unfoldable pub put_head : List ℕ → ℕ → Row → List ℕ
put_head store at r =
    set (set (set (set store at r.kind) (at + 1) (r.sender % 256)) (at + 2) (r.destinations % 256)) (at + 3)
    (r.destinations / 256 % 256)

-- the store with the row written at a place
unfoldable pub put_row_at : List ℕ → ℕ → Row → List ℕ
put_row_at store at r = put_codes 16 (put_head store at r) (at + 4) r.codes

-- the store with the row written as row k
unfoldable pub put_row : List ℕ → ℕ → Row → List ℕ
put_row store k r = put_row_at store (row_place k) r

-- the row that lies at a place
unfoldable pub row_at : List ℕ → ℕ → Row
row_at store at =
    record {
      kind = get_or store at 0;
      sender = get_or store (at + 1) 0;
      destinations = get_or store (at + 2) 0 + 256 * get_or store (at + 3) 0;
      codes = codes_from 16 store (at + 4);
    }

-- row k of the store
unfoldable pub get_row : List ℕ → ℕ → Row
get_row store k = row_at store (row_place k)

-- the codes below k are at most 5
unfoldable pub codes_known : ℕ → List ℕ → Bool
codes_known zero v = true
codes_known (suc k) v = both (codes_known k v) (leb (get_or v k 0) 5)

-- what 10 asks: kind 1 to 7, sender below n, no code above 5 among the first n
unfoldable pub row_known : ℕ → Row → Bool
row_known n r =
    both (both (leb 1 r.kind) (leb r.kind 7)) (both (ltb r.sender n) (codes_known n r.codes))
