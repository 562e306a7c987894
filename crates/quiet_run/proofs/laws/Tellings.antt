-- What a merge of vectors in closed form tells: a sum over the sites.
use Rattle.std.specs.Prelude.{ℕ, ◌≤◌, ◌≡◌, eqb}
use Rattle.std.proofs.Common.{ap, sym, ◌∙◌, arith, eq-eqb, ne_eqb}
use Rattle.choice.specs.Choice.{pick}
use Rattle.choice.specs.laws.ChoiceLaws.{pick-on, pick_off}
use Rattle.choice.specs.laws.Cases.{by_equal}
use Rattle.choice.specs.Places.{sum_to}
use Rattle.choice.specs.laws.Stores.{sum_same}
use Rattle.merging.specs.Merging.{rises, is_other, merging}
use Rattle.merging.proofs.Orders.{other-on, other-own}
use Rattle.merging.specs.laws.News.{gain, share, risen}
use Rattle.merging.proofs.NewsLaws.{merging-news}
use Rattle.quiet_run.proofs.laws.Vectors.{codes_of, codes_at}

-- what the entry of site k tells site own: f held, g said
unfoldable pub telling : ℕ → (ℕ → ℕ) → (ℕ → ℕ) → ℕ → ℕ
telling own f g k = pick (eqb k own) 0 (pick (rises (f k) (g k)) 1 0)

pub telling-own : (own : ℕ) (f g : ℕ → ℕ) (k : ℕ) → k ≡ own → telling own f g k ≡ 0
unfolding telling
telling-own own f g k e = pick-on (eqb k own) 0 (pick (rises (f k) (g k)) 1 0) (eq-eqb k own e)

pub telling-other : (own : ℕ) (f g : ℕ → ℕ) (k : ℕ) → (k ≡ own → ⊥) → telling own f g k ≡ pick (rises (f k) (g k)) 1 0
unfolding telling
telling-other own f g k unlike = pick_off (eqb k own) 0 (pick (rises (f k) (g k)) 1 0) (ne_eqb k own unlike)

-- THE NEWS of a merge
pub codes-news :
    (n own sender : ℕ) (f g : ℕ → ℕ) → n ≤ 16 →
    (merging n own sender (codes_of n g) (codes_of n f)).news ≡ sum_to (telling own f g) n
unfolding risen share gain
codes-news n own sender f g few =
    merging-news n own sender (codes_of n g) (codes_of n f) n (omega arith)
    ∙ sum_same (share n own (codes_of n g) (codes_of n f)) (telling own f g) n λ k h.
    by_equal k own
    (λ e. pick_off (is_other n own k) (gain (codes_of n g) (codes_of n f) k) 0 (ap (is_other n own) e ∙ other-own n own) ∙ sym (telling-own own f g k e))
    (λ e. (rw (other-on n own k h e, codes_at n f k few h, codes_at n g k few h)) ∙ sym (telling-other own f g k e))
