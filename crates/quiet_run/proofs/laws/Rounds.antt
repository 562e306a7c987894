-- What a round's merges and stores make of the closed forms, for any codes that climb.
use Rattle.std.specs.Prelude.{ℕ, zero, suc, ◌+◌, ◌≤◌, ◌<◌, ◌≡◌, refl, ltb, set}
use Rattle.std.proofs.Common.{ap, sym, ◌∙◌, arith, ltb-true, ltb-false}
use Rattle.choice.specs.Choice.{pick}
use Rattle.choice.specs.laws.Cases.{by_test, by_equal}
use Rattle.choice.specs.Places.{sum_to}
use Rattle.choice.specs.laws.Stores.{sum_but, sum_times}
use Rattle.merging.specs.Merging.{rises, merge_entry, merging}
use Rattle.quiet_run.proofs.laws.Vectors.{codes_of, codes-set, codes_merged}
use Rattle.quiet_run.proofs.laws.Tellings.{telling, telling-own, telling-other, codes-news}
use Rattle.quiet_run.proofs.laws.Stages.{knows, heard, knows-first, knows-own, knows-other, heard-low, heard-high, Climbs}

module _ (n older old new : ℕ) (few : n ≤ 16) (up : Climbs older old new) where
  -- site 0 of n, all at the old code, takes the new one
  pub opened : (m : ℕ) → n ≡ suc m → set (codes_of n (heard m old older)) 0 new ≡ codes_of n (heard 0 new old)
  opened m e =
      codes-set n (heard m old older) (heard 0 new old) 0 new few (omega arith) (sym (heard-low 0 new old 0 (omega arith)))
      (λ k h unlike. heard-low m old older k (omega arith) ∙ sym (heard-high 0 new old k (omega arith)))

  -- another site takes in the command: it then knows what the command says
  pub command_merged :
      (j : ℕ) → (j ≡ 0 → ⊥) → (merging n j 0 (codes_of n (heard 0 new old)) (codes_of n (knows j old older))).codes ≡ codes_of n (heard 0 new old)
  command_merged j unlike =
      codes_merged n j 0 (knows j old older) (heard 0 new old) (heard 0 new old) few
      (knows-own j old older j refl ∙ sym (heard-high 0 new old j (omega arith)))
      (λ k h other. by_equal k 0
      (λ z. ap (λ x. merge_entry (knows j old older x) (heard 0 new old x)) z
      ∙ (rw (knows-first j old older, heard-low 0 new old 0 (omega arith)) up.new_over_old)
      ∙ sym (heard-low 0 new old k (omega arith)))
      (λ z. rw (knows-other j old older k z other, heard-high 0 new old k (omega arith)) up.old_over_older))

  -- and takes the new code itself
  pub answered : (j : ℕ) → (j ≡ 0 → ⊥) → j < n → set (codes_of n (heard 0 new old)) j new ≡ codes_of n (knows j new old)
  answered j unlike below =
      codes-set n (heard 0 new old) (knows j new old) j new few below (sym (knows-own j new old j refl))
      (λ k h other. by_equal k 0
      (λ z. heard-low 0 new old k (omega arith) ∙ sym (ap (knows j new old) z ∙ knows-first j new old))
      (λ z. heard-high 0 new old k (omega arith) ∙ sym (knows-other j new old k z other)))

  -- site 0, after q replies, takes in that of the next site
  pub reply_merged :
      (q : ℕ) → (merging n 0 (suc q) (codes_of n (knows (suc q) new old)) (codes_of n (heard q new old))).codes ≡ codes_of n (heard (suc q) new old)
  reply_merged q =
      codes_merged n 0 (suc q) (heard q new old) (knows (suc q) new old) (heard (suc q) new old) few
      (heard-low q new old 0 (omega arith) ∙ sym (heard-low (suc q) new old 0 (omega arith)))
      (λ k h other. by_equal k (suc q)
      (λ e. rw (heard-high q new old k (omega arith), knows-own (suc q) new old k e, heard-low (suc q) new old k (omega arith)) up.new_over_old)
      (λ e. by_test (ltb k (suc q))
      (λ t. let low : k < suc q = ltb-true k (suc q) t in
      rw (heard-low q new old k (omega arith), knows-other (suc q) new old k other e, heard-low (suc q) new old k (omega arith)) up.new-stays)
      (λ t. let high : suc q ≤ k = ltb-false k (suc q) t in
      rw (heard-high q new old k (omega arith), knows-other (suc q) new old k other e, heard-high (suc q) new old k (omega arith)) up.old_over_old)))

  -- the command tells of site 0, and of the others where it says more of them than was known
  pub command-news :
      (j : ℕ) (d : ℕ) → (j ≡ 0 → ⊥) → j < n → pick (rises older old) 1 0 ≡ d →
      (merging n j 0 (codes_of n (heard 0 new old)) (codes_of n (knows j old older))).news + d + d ≡ sum_to (λ _. d) n + 1
  command-news j d unlike below e =
      omega (
        arith,
        codes-news n j 0 (knows j old older) (heard 0 new old) few,
        sum_but (telling j (knows j old older) (heard 0 new old)) but 0 n (omega arith) (λ k h z. sym (but-else k z)),
        sum_but but (λ _. d) j n below (λ k h other. by_equal k 0 (λ z. ap but z ∙ but_first) (λ z. but-else k z ∙ rest k z other)),
        but_first,
        but-else j unlike ∙ telling-own j (knows j old older) (heard 0 new old) j refl,
        first,
      )
    where
      but : ℕ → ℕ
      but zero = d
      but (suc k) = telling j (knows j old older) (heard 0 new old) (suc k)

      but_first : but 0 ≡ d
      but_first = refl

      but-else : (k : ℕ) → (k ≡ 0 → ⊥) → but k ≡ telling j (knows j old older) (heard 0 new old) k
      but-else zero z = absurd (z refl)
      but-else (suc k) z = refl

      first : telling j (knows j old older) (heard 0 new old) 0 ≡ 1
      first =
          telling-other j (knows j old older) (heard 0 new old) 0 (λ z. unlike (sym z))
          ∙ rw (knows-first j old older, heard-low 0 new old 0 (omega arith), up.rises-new)

      rest : (k : ℕ) → (k ≡ 0 → ⊥) → (k ≡ j → ⊥) → telling j (knows j old older) (heard 0 new old) k ≡ d
      rest k z other =
          telling-other j (knows j old older) (heard 0 new old) k other
          ∙ rw (knows-other j old older k z other, heard-high 0 new old k (omega arith)) e

  -- a reply tells of its sender alone
  pub reply-news :
      (q : ℕ) → suc q < n → (merging n 0 (suc q) (codes_of n (knows (suc q) new old)) (codes_of n (heard q new old))).news ≡ 1
  reply-news q below =
      omega (
        arith,
        codes-news n 0 (suc q) (heard q new old) (knows (suc q) new old) few,
        sum_but (telling 0 (heard q new old) (knows (suc q) new old)) (λ _. 0) (suc q) n below idle,
        sum_times 0 n,
        told,
      )
    where
      told : telling 0 (heard q new old) (knows (suc q) new old) (suc q) ≡ 1
      told =
          telling-other 0 (heard q new old) (knows (suc q) new old) (suc q) (λ z. omega arith)
          ∙ rw (heard-high q new old (suc q) (omega arith), knows-own (suc q) new old (suc q) refl, up.rises-new)

      idle : (k : ℕ) → k < n → (k ≡ suc q → ⊥) → telling 0 (heard q new old) (knows (suc q) new old) k ≡ 0
      idle k h e =
          by_equal k 0
          (λ z. telling-own 0 (heard q new old) (knows (suc q) new old) k z)
          (λ z. telling-other 0 (heard q new old) (knows (suc q) new old) k z
          ∙ by_test (ltb k (suc q))
          (λ t. let low : k < suc q = ltb-true k (suc q) t in
          rw (heard-low q new old k (omega arith), knows-other (suc q) new old k z e, up.new-is_new))
          (λ t. let high : suc q ≤ k = ltb-false k (suc q) t in
          rw (heard-high q new old k (omega arith), knows-other (suc q) new old k z e, up.old_is_old)))
