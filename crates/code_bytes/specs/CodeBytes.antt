-- Sixteen codes in a buffer, one byte a code: in a row of the bytes, and in a world's bytes.
use Rattle.std.specs.Prelude.{ℕ, zero, suc, ◌+◌, List, get_or, set, replicate}

-- the buffer with the first k codes written from a place on
unfoldable pub put_codes : ℕ → List ℕ → ℕ → List ℕ → List ℕ
put_codes zero bytes at codes = bytes
put_codes (suc k) bytes at codes = set (put_codes k bytes at codes) (at + k) (get_or codes k 0)

-- sixteen codes, the first k of them read from a place on
unfoldable pub codes_from : ℕ → List ℕ → ℕ → List ℕ
codes_from zero bytes at = replicate 16 0
codes_from (suc k) bytes at = set (codes_from k bytes at) k (get_or bytes (at + k) 0)
