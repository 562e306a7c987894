-- A list by its entries: what a function gives for each place below a count.
use Rattle.std.specs.Prelude.{ℕ, zero, suc, ◌<◌, List, [], ◌∷◌, ◌≡◌, refl, length, get_or, set}
use Rattle.std.proofs.Common.{not-suc-le-zero, le_of_suc-le-suc, ap, sym, ◌∙◌, arith, length-set, ext_get_or, get_or-set_same, get_or-set_other}
use Rattle.choice.specs.laws.Cases.{by_equal}

unfoldable pub table {ℓ} : {A : Type ℓ} → (ℕ → A) → ℕ → List A
table f zero = []
table f (suc k) = f 0 ∷ table (λ i. f (suc i)) k

pub table-length {ℓ} : {A : Type ℓ} (f : ℕ → A) (k : ℕ) → length (table f k) ≡ k
unfolding table
table-length f zero = refl
table-length f (suc k) = ap suc (table-length (λ i. f (suc i)) k)

pub table_at {ℓ} : {A : Type ℓ} (f : ℕ → A) (k i : ℕ) (d : A) → i < k → get_or (table f k) i d ≡ f i
unfolding table
table_at f zero i d h = absurd (not-suc-le-zero h)
table_at f (suc k) zero d h = refl
table_at f (suc k) (suc i) d h = table_at (λ i. f (suc i)) k i d (le_of_suc-le-suc h)

-- a list with these entries is the table
pub table_is {ℓ} : {A : Type ℓ} (d : A) (f : ℕ → A) (k : ℕ) (l : List A) → length l ≡ k → ((i : ℕ) → i < k → get_or l i d ≡ f i) → l ≡ table f k
table_is d f k l e h =
    ext_get_or d l (table f k) (e ∙ sym (table-length f k))
    (λ i less. h i (omega arith) ∙ sym (table_at f k i d (omega arith)))

-- one entry stored
pub table-set {ℓ} : {A : Type ℓ} (d : A) (f g : ℕ → A) (k i : ℕ) (x : A) → i < k → x ≡ g i → ((j : ℕ) → j < k → (j ≡ i → ⊥) → f j ≡ g j) →
    set (table f k) i x ≡ table g k
table-set d f g k i x inside here there =
    table_is d g k (set (table f k) i x) (length-set (table f k) i x ∙ table-length f k)
    (λ j less. by_equal j i
    (λ e. ap (λ y. get_or (set (table f k) i x) y d) e ∙ get_or-set_same (table f k) i x d (omega (arith, table-length f k)) ∙ here ∙ ap g (sym e))
    (λ e. get_or-set_other (table f k) i j x d e ∙ table_at f k j d less ∙ there j less e))

pub table_same {ℓ} : {A : Type ℓ} (d : A) (f g : ℕ → A) (k : ℕ) → ((i : ℕ) → i < k → f i ≡ g i) → table f k ≡ table g k
table_same d f g k h =
    table_is d g k (table f k) (table-length f k) (λ i less. table_at f k i d less ∙ h i less)
