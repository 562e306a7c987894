-- What a piece of text written to a buffer leaves, and the laws by which pieces join.
use Rattle.std.specs.Prelude.{ℕ, suc, ◌+◌, ◌-◌, ◌≤◌, List, [], ◌∷◌, ◌++◌, ◌≡◌, refl, length, take, drop, set}
use Rattle.std.proofs.Common.{sym, ap, ◌∙◌, arith, append_assoc, length-append, drop-drop}
use borrow.Rule.Slice.PartMut.{put_mid}
use Rattle.std.proofs.lemmas.List.Edits.{sets, sets-eq}
use Rattle.std.proofs.Math.Seq.{length-sets, take-append_seam}

-- the piece from a place on, the bytes beyond it as they were; the place after it
pub record Written (before : List ℕ) (at : ℕ) (piece after : List ℕ) (next : ℕ) : Type 0 where
  pub holds : after ≡ sets before at piece
  pub ends : next ≡ at + length piece

-- two stores after each other are the store of both
pub sets_join : (b : List ℕ) (at : ℕ) (s t : List ℕ) → sets (sets b at s) (at + length s) t ≡ sets b at (s ++ t)
sets_join b at [] t = let e : at + 0 ≡ at = omega arith in rw e
sets_join b at (a ∷ s) t =
    let e : at + suc (length s) ≡ suc at + length s = omega arith in
    rw e (sets_join (set b at a) (suc at) s t)

-- a piece, and one right after it
pub joined :
    {b m a : List ℕ} {at k n : ℕ} {s t : List ℕ} → Written b at s m k → Written m k t a n → Written b at (s ++ t) a n
joined {b} {m} {a} {at} {k} {n} {s} {t} p q =
    record {
      holds =
          q.holds ∙ ap (λ x. sets x k t) p.holds ∙ ap (λ x. sets (sets b at s) x t) p.ends ∙ sets_join b at s t;
      ends = omega (arith, length-append s t, p.ends, q.ends);
    }

-- nothing written
pub nothing : (b : List ℕ) (at : ℕ) → Written b at [] b at
nothing b at = record { holds = refl; ends = omega arith }

-- one byte written
pub one_byte : (b : List ℕ) (at x : ℕ) → Written b at (x ∷ []) (set b at x) (at + 1)
one_byte b at x = record { holds = refl; ends = omega arith }

-- a word in the place of as many bytes
pub word_written :
    (b : List ℕ) (at : ℕ) (w y : List ℕ) → at + length w ≤ length b → y ≡ w →
    Written b at w (put_mid at (at + length w - at) b y) (at + length w)
word_written b at w y room same =
    let k : at + length w - at ≡ length w = omega arith in
    record {
      holds = rw (same, k, drop-drop (length w) at b, ← append_assoc) (sym (sets-eq w b at room));
      ends = refl;
    }

-- the buffer keeps its length
pub written-length : {b a : List ℕ} {at n : ℕ} {s : List ℕ} → Written b at s a n → length a ≡ length b
written-length {b} {a} {at} {n} {s} w = ap length w.holds ∙ length-sets b at s

-- a piece written from the beginning stands there
pub written_front : {b a : List ℕ} {n : ℕ} {s : List ℕ} → Written b 0 s a n → length s ≤ length b → take n a ≡ s
written_front {b} {a} {n} {s} w room =
    let e : n ≡ length s = omega (arith, w.ends) in
    rw (e, w.holds, sets-eq s b 0 (omega arith)) (take-append_seam s (drop (0 + length s) b))
