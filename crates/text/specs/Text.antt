-- Texts as bytes: quoted words, and decimal numbers without leading noughts.
use Rattle.std.specs.Prelude.{ℕ, ◌+◌, ◌/◌, ◌%◌, List, [], ◌∷◌, ◌++◌, leb}
use Prim.Native.String.{String}
use Prim.Native.Char.{code}
use Rattle.choice.specs.Choice.{pick}

-- the bytes of a quoted text
unfoldable pub text : String → List ℕ
text String.[] = []
text (String.◌∷◌ c s) = code c ∷ text s

-- the digit of a number at a unit, written only where the number reaches the unit
unfoldable pub digit_at : ℕ → ℕ → List ℕ
digit_at unit x = pick (leb unit x) ((48 + x / unit % 10) ∷ []) []

-- a number below a million in decimal
unfoldable pub decimal : ℕ → List ℕ
decimal x =
    digit_at 100000 x ++ digit_at 10000 x ++ digit_at 1000 x ++ digit_at 100 x ++ digit_at 10 x ++ ((48 + x % 10) ∷ [])

-- a word, and the number after it
unfoldable pub named : String → ℕ → List ℕ
named word x = text word ++ decimal x
