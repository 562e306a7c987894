-- Numbers in bytes, low byte first.
use Rattle.std.specs.Prelude.{ℕ, zero, suc, ◌+◌, ◌*◌, ◌/◌, ◌%◌, List, set}
use Rattle.word.specs.Words.{word_at}

-- a number without its k low bytes
unfoldable pub shifted : ℕ → ℕ → ℕ
shifted zero x = x
shifted (suc k) x = shifted k x / 256

-- the k low bytes of a number written from a place on
unfoldable pub put_number : ℕ → List ℕ → ℕ → ℕ → List ℕ
put_number zero bytes at x = bytes
put_number (suc k) bytes at x = set (put_number k bytes at x) (at + k) (shifted k x % 256)

-- the 32 bits at a place
unfoldable pub long_at : List ℕ → ℕ → ℕ
long_at bytes at = word_at bytes at + 65536 * word_at bytes (at + 2)
