-- The low bytes of a number, as a part of a buffer.
use Rattle.std.specs.Prelude.{ℕ, zero, suc, ◌+◌, ◌-◌, ◌%◌, ◌≤◌, ◌<◌, List, ◌≡◌, refl, length, get_or}
use Rattle.std.proofs.Common.{sym, ◌∙◌, arith}
use Rattle.std.proofs.Math.Seq.{paste, paste-zero, paste-suc}
use Rattle.std.proofs.lemmas.Slice.{put_mid-paste}
use borrow.Rule.Slice.PartMut.{put_mid}
use Rattle.layout.specs.Numbers.{shifted, put_number}

pasted : (k : ℕ) (b low : List ℕ) (at x : ℕ) → at + k ≤ length b → k ≤ length low → ((i : ℕ) → i < k → get_or low i 0 ≡ shifted i x % 256) →
    paste b at low k ≡ put_number k b at x
unfolding put_number
pasted zero b low at x room long each = sym (paste-zero b at low)
pasted (suc k) b low at x room long each =
    sym (paste-suc b at low k 0 (omega arith) (omega arith))
    ∙ rw (pasted k b low at x (omega arith) (omega arith) (λ i h. each i (omega arith)), each k (omega arith)) refl

pub part_put :
    (count : ℕ) (b low : List ℕ) (at x : ℕ) → at + count ≤ length b → length low ≡ count →
    ((i : ℕ) → i < count → get_or low i 0 ≡ shifted i x % 256) → put_mid at (at + count - at) b low ≡ put_number count b at x
part_put count b low at x room long each =
    put_mid-paste at (at + count - at) b low low count refl (omega arith) (omega arith) ∙ pasted count b low at x room (omega arith) each
