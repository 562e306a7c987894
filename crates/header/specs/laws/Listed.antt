-- The weights that a list says, place by place.
use Rattle.std.specs.Prelude.{ℕ, ◌<◌, List, ◌≡◌, ltb, length, get_or, replicate}
use Rattle.std.proofs.Common.{sym, ◌∙◌, arith, ltb-true, ltb-false}
use Rattle.std.proofs.lemmas.List.{ext_get_or, length-replicate, get_or-replicate}
use Rattle.choice.specs.Choice.{pick}
use Rattle.choice.specs.laws.Cases.{by_test}
use Rattle.choice.specs.laws.Stores.{stored_length, stored_at, stored_else}
use Rattle.weights.specs.Weights.{weights_by}

pub weights_made :
    (f : ℕ → ℕ) (n : ℕ) (made : List ℕ) → length made ≡ 16 → ((k d : ℕ) → k < 16 → get_or made k d ≡ pick (ltb k n) (f k) 0) →
    made ≡ weights_by f n
unfolding weights_by
weights_made f n made full each =
    ext_get_or 0 made _ (full ∙ sym (stored_length f n (replicate 16 0) ∙ length-replicate {A = ℕ} 16 0))
    (λ i h. let few : i < 16 = omega (arith, full) in
    each i 0 few
    ∙ by_test (ltb i n)
    (λ t. rw t (sym (stored_at f n (replicate 16 0) i (ltb-true i n t) (rw (length-replicate {A = ℕ} 16 0) few))))
    (λ t. rw t (sym (stored_else f n (replicate 16 0) i (ltb-false i n t) ∙ get_or-replicate 16 i 0 0 few))))
