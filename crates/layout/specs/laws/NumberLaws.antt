-- Laws of numbers in bytes: what is written reads back, and nothing else changes.
use Rattle.std.specs.Prelude.{ℕ, zero, suc, ◌+◌, ◌*◌, ◌/◌, ◌%◌, ◌≤◌, ◌<◌, List, ◌≡◌, refl, length, get_or}
use Rattle.std.proofs.Common.{◌∙◌, add-zero, add_assoc, div-lt_iff_lt-mul, mod-eq_of_lt, arith, length-set, get_or-set_other}
use Rattle.std.proofs.Math.Nat.{div-add-mod}
use Rattle.std.proofs.lemmas.List.{set-get_or}
use Rattle.choice.specs.laws.ChoiceLaws.{set_ind}
use Rattle.word.specs.Words.{word_at}
use Rattle.layout.specs.Numbers.{shifted, put_number, long_at}

pub put_number-length : (k : ℕ) (b : List ℕ) (at x : ℕ) → length (put_number k b at x) ≡ length b
unfolding put_number
put_number-length zero b at x = refl
put_number-length (suc k) b at x = simp length-set (put_number-length k b at x)

pub put_number_else :
    (k : ℕ) (b : List ℕ) (at x p : ℕ) → ((i : ℕ) → i < k → p ≡ at + i → ⊥) →
    get_or (put_number k b at x) p 0 ≡ get_or b p 0
unfolding put_number
put_number_else zero b at x p h = refl
put_number_else (suc k) b at x p h =
    get_or-set_other (put_number k b at x) (at + k) p (shifted k x % 256) 0 (h k (omega arith))
    ∙ put_number_else k b at x p (λ i l. h i (omega arith))

pub put_number-at :
    (k : ℕ) (b : List ℕ) (at x i : ℕ) → i < k → at + k ≤ length b →
    get_or (put_number k b at x) (at + i) 0 ≡ shifted i x % 256
unfolding put_number
put_number-at zero b at x i h room = absurd (omega arith)
put_number-at (suc k) b at x i h room =
    set_ind (λ y. y ≡ shifted i x % 256) (put_number k b at x) (at + k) (at + i) (shifted k x % 256) 0
    (rw put_number-length (omega arith))
    (λ e. let q : i ≡ k = omega arith in rw q)
    (λ e. let l : i < k = omega arith in put_number-at k b at x i l (omega arith))

-- a number that the bytes hold already
pub put_number-same :
    (k : ℕ) (b : List ℕ) (at x : ℕ) → ((i : ℕ) → i < k → shifted i x % 256 ≡ get_or b (at + i) 0) → put_number k b at x ≡ b
unfolding put_number
put_number-same zero b at x h = refl
put_number-same (suc k) b at x h =
    rw (put_number-same k b at x (λ i l. h i (omega arith)), h k (omega arith)) (set-get_or b (at + k) 0)

-- a number of 16 bits by its two bytes
pub word_whole : (x : ℕ) → x < 65536 → x % 256 + 256 * (x / 256 % 256) ≡ x
word_whole x small =
    let high : x / 256 < 256 = (div-lt_iff_lt-mul {k = 256} (omega arith)).1 small in
    omega (arith, mod-eq_of_lt high, div-add-mod x 256)

-- a number of 16 bits written and read
pub word_written : (b : List ℕ) (at x : ℕ) → at + 2 ≤ length b → x < 65536 → word_at (put_number 2 b at x) at ≡ x
unfolding word_at shifted
word_written b at x room small =
    let low : get_or (put_number 2 b at x) at 0 ≡ x % 256 = rw add-zero at (put_number-at 2 b at x 0 (omega arith) room) in
    rw (low, put_number-at 2 b at x 1 (omega arith) room) (word_whole x small)

-- two bytes hold no more than 16 bits
pub word_below : (b : List ℕ) (at r : ℕ) → r ≡ word_at b at → ((i : ℕ) → get_or b i 0 < 256) → r < 65536
unfolding word_at
word_below b at r e small = omega (arith, small at, small (at + 1))

-- a number of 16 bits elsewhere
pub word_same : (b d : List ℕ) (p : ℕ) → get_or b p 0 ≡ get_or d p 0 → get_or b (p + 1) 0 ≡ get_or d (p + 1) 0 → word_at b p ≡ word_at d p
unfolding word_at
word_same b d p low high = rw (low, high)

pub word_else :
    (k : ℕ) (b : List ℕ) (at x p : ℕ) → ((i : ℕ) → i < k → p ≡ at + i → ⊥) → ((i : ℕ) → i < k → p + 1 ≡ at + i → ⊥) →
    word_at (put_number k b at x) p ≡ word_at b p
word_else k b at x p low high =
    word_same (put_number k b at x) b p (put_number_else k b at x p low) (put_number_else k b at x (p + 1) high)

-- a number of 32 bits by its four bytes
long-whole :
    (x : ℕ) → x < 4294967296 →
    x % 256 + 256 * (x / 256 % 256) + 65536 * (x / 256 / 256 % 256 + 256 * (x / 256 / 256 / 256 % 256)) ≡ x
long-whole x small =
    let most : x / 256 < 16777216 = (div-lt_iff_lt-mul {k = 256} (omega arith)).1 small in
    let high : x / 256 / 256 < 65536 = (div-lt_iff_lt-mul {k = 256} (omega arith)).1 most in
    omega (arith, word_whole (x / 256 / 256) high, div-add-mod x 256, div-add-mod (x / 256) 256)

-- a number of 32 bits written and read
pub long-written : (b : List ℕ) (at x : ℕ) → at + 4 ≤ length b → x < 4294967296 → long_at (put_number 4 b at x) at ≡ x
unfolding long_at word_at shifted
long-written b at x room small =
    let low : get_or (put_number 4 b at x) at 0 ≡ x % 256 = rw add-zero at (put_number-at 4 b at x 0 (omega arith) room) in
    let top : get_or (put_number 4 b at x) (at + 2 + 1) 0 ≡ x / 256 / 256 / 256 % 256 =
    rw add_assoc (put_number-at 4 b at x 3 (omega arith) room) in
    rw (low, put_number-at 4 b at x 1 (omega arith) room, put_number-at 4 b at x 2 (omega arith) room, top) (long-whole x small)

-- a number of 32 bits elsewhere
pub long_same : (b d : List ℕ) (p : ℕ) → word_at b p ≡ word_at d p → word_at b (p + 2) ≡ word_at d (p + 2) → long_at b p ≡ long_at d p
unfolding long_at
long_same b d p low high = rw (low, high)
