-- Codes written read back, and all else stays.
use Rattle.std.specs.Prelude.{ℕ, zero, suc, ◌+◌, ◌≤◌, ◌<◌, List, ◌≡◌, refl, length, get_or, set, take, drop}
use Rattle.std.proofs.Math.Seq.{paste, paste-zero, paste-suc}
use Rattle.std.proofs.lemmas.Grind.{same_number_lists}
use Rattle.std.proofs.lemmas.List.{length-take-le, get_or-take, get_or-drop}
use Rattle.std.proofs.Common.{sym, ap, ◌∙◌, arith, length-drop, length-set, get_or-set_other}
use Rattle.choice.specs.laws.ChoiceLaws.{set_ind}
use Rattle.code_bytes.specs.CodeBytes.{put_codes, codes_from}

-- the codes written

pub put_codes-length : (k : ℕ) (bytes : List ℕ) (at : ℕ) (codes : List ℕ) → length (put_codes k bytes at codes) ≡ length bytes
unfolding put_codes
put_codes-length zero bytes at codes = refl
put_codes-length (suc k) bytes at codes = simp length-set (put_codes-length k bytes at codes)

pub put_codes_else :
    (k : ℕ) (bytes : List ℕ) (at : ℕ) (codes : List ℕ) (b : ℕ) → ((i : ℕ) → i < k → b ≡ at + i → ⊥) →
    get_or (put_codes k bytes at codes) b 0 ≡ get_or bytes b 0
unfolding put_codes
put_codes_else zero bytes at codes b h = refl
put_codes_else (suc k) bytes at codes b h =
    get_or-set_other (put_codes k bytes at codes) (at + k) b (get_or codes k 0) 0 (h k (omega arith))
    ∙ put_codes_else k bytes at codes b (λ i l. h i (omega arith))

pub put_codes-at :
    (k : ℕ) (bytes : List ℕ) (at : ℕ) (codes : List ℕ) (i : ℕ) → i < k → at + k ≤ length bytes →
    get_or (put_codes k bytes at codes) (at + i) 0 ≡ get_or codes i 0
unfolding put_codes
put_codes-at zero bytes at codes i h room = absurd (omega arith)
put_codes-at (suc k) bytes at codes i h room =
    set_ind (λ x. x ≡ get_or codes i 0) (put_codes k bytes at codes) (at + k) (at + i) (get_or codes k 0) 0
    (rw put_codes-length (omega arith))
    (λ e. let q : i ≡ k = omega arith in rw q)
    (λ e. let l : i < k = omega arith in put_codes-at k bytes at codes i l (omega arith))

-- the codes read

pub codes_from-length : (k : ℕ) (bytes : List ℕ) (at : ℕ) → length (codes_from k bytes at) ≡ 16
unfolding codes_from
codes_from-length zero bytes at = refl
codes_from-length (suc k) bytes at = simp length-set (codes_from-length k bytes at)

pub codes_from-at :
    (k : ℕ) (bytes : List ℕ) (at i : ℕ) → i < k → k ≤ 16 → get_or (codes_from k bytes at) i 0 ≡ get_or bytes (at + i) 0
unfolding codes_from
codes_from-at zero bytes at i h small = absurd (omega arith)
codes_from-at (suc k) bytes at i h small =
    set_ind (λ x. x ≡ get_or bytes (at + i) 0) (codes_from k bytes at) k i (get_or bytes (at + k) 0) 0
    (rw codes_from-length (omega arith))
    (λ e. rw e)
    (λ e. codes_from-at k bytes at i (omega arith) (omega arith))

-- the same codes, at two places
pub codes_from-same :
    (k : ℕ) (s t : List ℕ) (p q : ℕ) → ((i : ℕ) → i < k → get_or s (p + i) 0 ≡ get_or t (q + i) 0) →
    codes_from k s p ≡ codes_from k t q
unfolding codes_from
codes_from-same zero s t p q h = refl
codes_from-same (suc k) s t p q h = rw (codes_from-same k s t p q (λ i l. h i (omega arith)), h k (omega arith))

-- the codes written are those that a copy of the whole part leaves
pub pasted : (k : ℕ) (bytes : List ℕ) (at : ℕ) (codes : List ℕ) → at + k ≤ length bytes → k ≤ length codes → paste bytes at codes k ≡ put_codes k bytes at codes
unfolding put_codes
pasted zero bytes at codes room size = sym (paste-zero bytes at codes)
pasted (suc k) bytes at codes room size =
    sym (paste-suc bytes at codes k 0 (omega arith) (omega arith))
    ∙ ap (λ b. set b (at + k) (get_or codes k 0)) (pasted k bytes at codes (omega arith) (omega arith))

-- and the codes read are that part of the buffer
pub codes-part : (bytes : List ℕ) (at : ℕ) → at + 16 ≤ length bytes → take 16 (drop at bytes) ≡ codes_from 16 bytes at
codes-part bytes at room =
    let size : length (take 16 (drop at bytes)) ≡ 16 = length-take-le 16 (drop at bytes) (rw length-drop (omega arith)) in
    same_number_lists (take 16 (drop at bytes)) (codes_from 16 bytes at) (size ∙ sym (codes_from-length 16 bytes at))
    (λ i h. let below : i < 16 = omega arith in
    get_or-take 16 (drop at bytes) i 0 below ∙ get_or-drop at bytes i 0 ∙ sym (codes_from-at 16 bytes at i below (omega arith)))

-- sixteen codes made place by place are those read
pub codes_made :
    (bytes : List ℕ) (at : ℕ) (made : List ℕ) → length made ≡ 16 → ((k d : ℕ) → k < 16 → get_or made k d ≡ get_or bytes (at + k) 0) →
    made ≡ codes_from 16 bytes at
codes_made bytes at made full each =
    same_number_lists made (codes_from 16 bytes at) (full ∙ sym (codes_from-length 16 bytes at))
    (λ i h. let below : i < 16 = omega (arith, full) in each i 0 below ∙ sym (codes_from-at 16 bytes at i below (omega arith)))
