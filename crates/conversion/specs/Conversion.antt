-- Carrying a list from one edition to the other (request (vii)). A list that begins with 130 goes back to the first edition, any other forward to the
-- second: its first byte is read as n. The header says the same numbers in the other edition, and every byte after it stays. Commands are not read.
-- Refusals, all at place 0: 1 length over 32,768; 2 under 5; the header's numbers, back 3, 2, 21, 4, 5, forward 3 to 5; 22 a weight other than 1, going
-- back; 1 where the converted list would pass 32,768; 20 a buffer shorter than the output.
use Rattle.std.specs.Prelude.{ℕ, ◌/◌, ◌%◌, Bool, List, ◌∷◌, ◌++◌, ltb, eqb, length, drop, replicate}
use Rattle.choice.specs.Choice.{pick}
use Rattle.choice.specs.Places.{all_below}
use Rattle.weights.specs.Weights.{weight_of}
use Rattle.world.specs.Sizes.{list_bytes}
use Rattle.header.specs.declared.Header.{Header}
use Rattle.header.specs.Headers.{is_second, header_of, header_weights, header_length, header_number, first_number}
use Rattle.spelling.specs.Spelling.{header_bytes}
use Rattle.spelling.specs.WriteRead.{Output, refuse, put_out}

-- a second-edition header in which every site weighs 1: 130, n, then C, A and the willing sites as 16 bits each, low byte first, then n weights
unfoldable pub second_bytes : Header → List ℕ
second_bytes h =
    130 ∷ h.n ∷ h.commit.0 % 256 ∷ h.commit.0 / 256 ∷ h.abort.0 % 256 ∷ h.abort.0 / 256
    ∷ h.willing % 256 ∷ h.willing / 256 ∷ replicate h.n 1

-- the same header in the other edition: the first where it was the second
unfoldable pub other_bytes : Bool → Header → List ℕ
other_bytes second h = pick second (header_bytes h) (second_bytes h)

-- the list in the other edition: its header there, and every byte after its header as it was
unfoldable pub converted : List ℕ → List ℕ
converted list = other_bytes (is_second list) (header_of list) ++ drop (header_length list) list

-- every site below n weighs 1
unfoldable pub all_one : ℕ → List ℕ → Bool
all_one n weights = all_below (λ i. eqb (weight_of weights i) 1) n

-- a number, or the one after it where it is 0
abbrev pub first_of : ℕ → ℕ → ℕ
first_of number after = pick (eqb number 0) after number

-- going back: the number of length and header, then 22
unfoldable pub back_number : List ℕ → ℕ
back_number list = first_of (header_number list) (pick (all_one (header_of list).n (header_weights list)) 0 22)

-- whichever way the list goes; forward it can only be of the first edition
unfoldable pub edition_number : List ℕ → ℕ
edition_number list = pick (is_second list) (back_number list) (first_number list)

-- and 1 where the converted list would be too long; 0 for none
unfoldable pub convert_number : List ℕ → ℕ
convert_number list = first_of (edition_number list) (pick (ltb list_bytes (length (converted list))) 1 0)

-- CONVERTING: a list of either edition into the other, from the buffer's beginning; the place is the list's length
unfoldable pub convert : List ℕ → List ℕ → Output
convert list buffer =
    pick (eqb (convert_number list) 0) (put_out (length list) (converted list) buffer) (refuse (convert_number list) 0 buffer)
