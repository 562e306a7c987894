-- The highest byte of a code's level, by which the program compares levels.
use Rattle.std.specs.Prelude.{ℕ, ◌≤◌, ◌<◌, true, false, ◌≡◌, refl, ltb}
use Rattle.std.proofs.Common.{sym, ◌∙◌, arith, lt-ltb, le-ltb, ltb-true, ltb-false}
use Rattle.choice.specs.Choice.{pick}
use Rattle.choice.specs.laws.ChoiceLaws.{pick_ind}
use Rattle.choice.specs.laws.Cases.{by_test}
use Rattle.vector.specs.Codes.{level}
use Rattle.merging.specs.Merging.{rises}

unfoldable pub top : ℕ → ℕ
top c = pick (ltb c 2) c (pick (ltb c 4) 3 255)

level-most : (c : ℕ) → level c ≤ 3
unfolding level
level-most c =
    pick_ind (λ x. x ≤ 3) (ltb c 2) c (pick (ltb c 4) 2 3) (λ e. omega (arith, ltb-true c 2 e))
    (λ _. pick_ind (λ x. x ≤ 3) (ltb c 4) 2 3 (λ _. omega arith) (λ _. omega arith))

-- the level of a code said, against that of a code held below 2, below 4, and of 4 or more

low-above : (held said : ℕ) → held < 2 → ltb held (level said) ≡ ltb held said
unfolding level
low-above held said low =
    pick_ind (λ x. ltb held x ≡ ltb held said) (ltb said 2) said (pick (ltb said 4) 2 3) (λ _. refl)
    (λ e. let high : 2 ≤ said = ltb-false said 2 e in
    pick_ind (λ x. ltb held x ≡ ltb held said) (ltb said 4) 2 3
    (λ _. lt-ltb held 2 low ∙ sym (lt-ltb held said (omega arith)))
    (λ _. lt-ltb held 3 (omega arith) ∙ sym (lt-ltb held said (omega arith))))

group-above : (said : ℕ) → ltb 2 (level said) ≡ ltb 3 said
unfolding level
group-above said =
    pick_ind (λ x. ltb 2 x ≡ ltb 3 said) (ltb said 2) said (pick (ltb said 4) 2 3)
    (λ e. let low : said < 2 = ltb-true said 2 e in le-ltb 2 said (omega arith) ∙ sym (le-ltb 3 said (omega arith)))
    (λ _. pick_ind (λ x. ltb 2 x ≡ ltb 3 said) (ltb said 4) 2 3
    (λ e. sym (le-ltb 3 said (omega (arith, ltb-true said 4 e)))) (λ e. sym (lt-ltb 3 said (ltb-false said 4 e))))

outcome-above : (said : ℕ) → said < 256 → ltb 3 (level said) ≡ ltb 255 said
outcome-above said byte = le-ltb 3 (level said) (level-most said) ∙ sym (le-ltb 255 said (omega arith))

-- AN ENTRY RISES exactly if the byte said is above the top of the code held
pub rises-above : (held said : ℕ) → said < 256 → rises held said ≡ ltb (top held) said
unfolding rises level top
rises-above held said byte =
    by_test (ltb held 2)
    (λ low. rw low (low-above held said (ltb-true held 2 low)))
    (λ high. by_test (ltb held 4) (λ e. rw (high, e) (group-above said)) (λ e. rw (high, e) (outcome-above said byte)))

pub above-rises : (held said most : ℕ) → said < 256 → most ≡ top held → most < said → rises held said ≡ true
above-rises held said most byte e h = rises-above held said byte ∙ lt-ltb (top held) said (rw (← e) h)

pub not_above : (held said most : ℕ) → said < 256 → most ≡ top held → said ≤ most → rises held said ≡ false
not_above held said most byte e h = rises-above held said byte ∙ le-ltb (top held) said (rw (← e) h)
