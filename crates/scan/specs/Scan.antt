-- Words and decimal numbers found at a place of a text. Past its end a byte reads as 0, which is no digit.
use Rattle.std.specs.Prelude.{ℕ, zero, suc, ◌+◌, ◌*◌, ◌-◌, Bool, true, false, List, [], ◌∷◌, ltb, leb, eqb, length, get_or, drop, Option, Some, None}
use Rattle.choice.specs.Choice.{pick, both}
use Rattle.scan.specs.declared.Number.{Number}

-- the text begins with the word
unfoldable pub begins_with : List ℕ → List ℕ → Bool
begins_with [] s = true
begins_with (b ∷ w) [] = false
begins_with (b ∷ w) (a ∷ s) = both (eqb a b) (begins_with w s)

-- the word stands at a place
unfoldable pub word_at : List ℕ → List ℕ → ℕ → Bool
word_at w s at = begins_with w (drop at s)

-- a byte of 0 to 9
unfoldable pub is_digit : ℕ → Bool
is_digit b = both (leb 48 b) (leb b 57)

-- a number, and the place after it
unfoldable pub number : ℕ → ℕ → Number
number value next = record { value = value; next = next }

-- a number read so far, with at most k digits more; one that begins with a nought ends there
unfoldable pub digits_from : ℕ → List ℕ → ℕ → ℕ → Number
digits_from zero s at v = number v at
digits_from (suc k) s at v =
    pick (both (ltb 0 v) (is_digit (get_or s at 0))) (digits_from k s (at + 1) (10 * v + (get_or s at 0 - 48))) (number v at)

unfoldable pub up_to : ℕ → Number → Option Number
up_to limit n = pick (leb n.value limit) (Some n) None

-- THE NUMBER at a place: decimal, without leading noughts, at most the limit. No limit needs a sixth digit
unfoldable pub number_at : ℕ → List ℕ → ℕ → Option Number
number_at limit s at =
    pick (is_digit (get_or s at 0)) (up_to limit (digits_from 4 s (at + 1) (get_or s at 0 - 48))) None

-- the number after a word
unfoldable pub named_at : List ℕ → ℕ → List ℕ → ℕ → Option Number
named_at w limit s at = pick (word_at w s at) (number_at limit s (at + length w)) None

-- what follows a number that was found, or else the first
abbrev pub onward {ℓ} : {A : Type ℓ} → A → Option Number → (Number → A) → A
onward otherwise None f = otherwise
onward otherwise (Some n) f = f n
