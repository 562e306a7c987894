-- Codes that only grow: a merged entry, and the code of a site's state as its history grows.
use Rattle.std.specs.Prelude.{ℕ, ◌+◌, ◌≤◌, ◌<◌, List, ◌≡◌, refl, ltb}
use Rattle.std.proofs.Common.{sym, subst, ◌∙◌, ltb-true, ltb-false}
use native.Mathlib.Omega.{arith}
use Rattle.choice.specs.Choice.{pick}
use Rattle.choice.specs.laws.Cases.{by_test, by_equal}
use Rattle.choice.specs.laws.ChoiceLaws.{pick_ind}
use Rattle.vector.specs.Codes.{level}
use Rattle.merging.specs.Merging.{rises, merge_entry}
use Rattle.site.specs.declared.State.{State}
use Rattle.site.specs.declared.State.TheVariants as State·
use Rattle.site.specs.State.{code_of}
use Rattle.site.specs.Records.{Written}
use Rattle.history.specs.Safe.{written_at}
use Rattle.history.proofs.laws.HistoryLaws.{Grown}
use Rattle.history.proofs.laws.Truth.{Says}

-- levels go with codes

-- of a code below 2, below 4, and of 4 or more
record Levelled (c l : ℕ) : Type 0 where
  low : c < 2 → l ≡ c
  group : 2 ≤ c → c < 4 → l ≡ 2
  outcome : 4 ≤ c → l ≡ 3

levelled : (c : ℕ) → Levelled c (level c)
unfolding level
levelled c =
    pick_ind (Levelled c) (ltb c 2) c (pick (ltb c 4) 2 3)
    (λ e. let h : c < 2 = ltb-true c 2 e in
    record { low = λ _. refl; group = λ p _. absurd (omega (arith, h, p)); outcome = λ p. absurd (omega (arith, h, p)) })
    (λ e. let h : 2 ≤ c = ltb-false c 2 e in
    pick_ind (Levelled c) (ltb c 4) 2 3
    (λ f. let k : c < 4 = ltb-true c 4 f in
    record { low = λ p. absurd (omega (arith, h, p)); group = λ _ _. refl; outcome = λ p. absurd (omega (arith, k, p)) })
    (λ f. let k : 4 ≤ c = ltb-false c 4 f in
    record { low = λ p. absurd (omega (arith, h, p)); group = λ _ p. absurd (omega (arith, k, p)); outcome = λ _. refl }))

-- a code is below 2, below 4, or 4 or more
by_level : {P : Type 0} (c : ℕ) → (c < 2 → level c ≡ c → P) → (2 ≤ c → c < 4 → level c ≡ 2 → P) → (4 ≤ c → level c ≡ 3 → P) → P
by_level c low group outcome =
    by_test (ltb c 2)
    (λ e. low (ltb-true c 2 e) ((levelled c).low (ltb-true c 2 e)))
    (λ e. by_test (ltb c 4)
    (λ f. group (ltb-false c 2 e) (ltb-true c 4 f) ((levelled c).group (ltb-false c 2 e) (ltb-true c 4 f)))
    (λ f. outcome (ltb-false c 4 f) ((levelled c).outcome (ltb-false c 4 f))))

-- a code of a higher level is a higher code
higher : (a b : ℕ) → level a < level b → a ≤ b
higher a b h =
    by_level a
    (λ p e. by_level b (λ q f. omega (arith, e, f, h)) (λ q _ f. omega (arith, p, q)) (λ q f. omega (arith, p, q)))
    (λ p q e. by_level b (λ r f. absurd (omega (arith, e, f, h, r))) (λ r _ f. absurd (omega (arith, e, f, h))) (λ r f. omega (arith, q, r)))
    (λ p e. by_level b (λ r f. absurd (omega (arith, e, f, h, r))) (λ r _ f. absurd (omega (arith, e, f, h))) (λ r f. absurd (omega (arith, e, f, h))))

-- merging

-- the entry held is not lost
pub merge-grows : (held said : ℕ) → held ≤ merge_entry held said
unfolding merge_entry rises
merge-grows held said =
    pick_ind (λ x. held ≤ x) (ltb (level held) (level said)) said held
    (λ e. higher held said (ltb-true (level held) (level said) e)) (λ _. omega arith)

-- a group or an outcome that is said is held then, or more
pub merge-group : (held said : ℕ) → 2 ≤ said → 2 ≤ merge_entry held said
unfolding merge_entry rises
merge-group held said some =
    pick_ind (λ x. 2 ≤ x) (ltb (level held) (level said)) said held
    (λ _. some)
    (λ e. let h : level said ≤ level held = ltb-false (level held) (level said) e in
    by_level held
    (λ p f. by_level said (λ q g. absurd (omega (arith, q, some))) (λ q _ g. absurd (omega (arith, f, g, h, p))) (λ q g. absurd (omega (arith, f, g, h, p))))
    (λ p _ f. p) (λ p f. omega (arith, p)))

pub merge-outcome : (held said : ℕ) → 4 ≤ said → 4 ≤ merge_entry held said
unfolding merge_entry rises
merge-outcome held said some =
    pick_ind (λ x. 4 ≤ x) (ltb (level held) (level said)) said held
    (λ _. some)
    (λ e. let h : level said ≤ level held = ltb-false (level held) (level said) e in
    let top : level said ≡ 3 = (levelled said).outcome some in
    by_level held (λ p f. absurd (omega (arith, f, top, h, p))) (λ p _ f. absurd (omega (arith, f, top, h))) (λ p f. p))

-- THE CODE OF A STATE: it grows; a group stays until there is an outcome, and an outcome stays
pub record Rises (c d : ℕ) : Type 0 where
  pub grows : c ≤ d
  pub stays : 2 ≤ c → d < 4 → d ≡ c
  pub ends : 4 ≤ c → d ≡ c

pub rises-none : (c : ℕ) → Rises c c
rises-none c = record { grows = omega arith; stays = λ _ _. refl; ends = λ _. refl }

pub rises-then : (a b c : ℕ) → Rises a b → Rises b c → Rises a c
rises-then a b c p q =
    record {
      grows = omega (arith, p.grows, q.grows);
      stays = λ h l. let e : b ≡ a = p.stays h (omega (arith, q.grows, l)) in
          omega (arith, e, q.stays (omega (arith, e, h)) l);
      ends = λ h. let e : b ≡ a = p.ends h in omega (arith, e, q.ends (omega (arith, e, h)));
    }

to-outcome : (c d : ℕ) → c < 4 → 4 ≤ d → Rises c d
to-outcome c d low high =
    record {
      grows = omega (arith, low, high);
      stays = λ _ p. absurd (omega (arith, p, high));
      ends = λ p. absurd (omega (arith, p, low));
    }

-- from a code below the groups
from_low : (c d : ℕ) → c < 2 → c ≤ d → Rises c d
from_low c d low h = record { grows = h; stays = λ p. absurd (omega (arith, p, low)); ends = λ p. absurd (omega (arith, p, low)) }

-- what the records of a history say of a state, where each place of a log is written once
module _ (j : ℕ) (K : List Written) (one-group : written_at j 2 K + written_at j 3 K ≤ 1) (one-outcome : written_at j 4 K + written_at j 5 K ≤ 1) where
  pub from-prepared : (d : State) → 1 ≤ written_at j 1 K → Says d j K → 1 ≤ code_of d
  unfolding code_of
  from-prepared State·.Active some says = absurd (omega (arith, some, says))
  from-prepared State·.Prepared some says = omega arith
  from-prepared State·.CommitGroup some says = omega arith
  from-prepared State·.AbortGroup some says = omega arith
  from-prepared State·.Committed some says = omega arith
  from-prepared State·.Aborted some says = omega arith

  from-commit-group : (d : State) → 1 ≤ written_at j 2 K → Says d j K → Rises 2 (code_of d)
  unfolding code_of
  from-commit-group State·.Active some says = absurd (omega (arith, some, says))
  from-commit-group State·.Prepared some says = absurd (omega (arith, some, says))
  from-commit-group State·.CommitGroup some says = rises-none 2
  from-commit-group State·.AbortGroup some says = absurd (omega (arith, some, says, one-group))
  from-commit-group State·.Committed some says = to-outcome 2 4 (omega arith) (omega arith)
  from-commit-group State·.Aborted some says = to-outcome 2 5 (omega arith) (omega arith)

  from-abort-group : (d : State) → 1 ≤ written_at j 3 K → Says d j K → Rises 3 (code_of d)
  unfolding code_of
  from-abort-group State·.Active some says = absurd (omega (arith, some, says))
  from-abort-group State·.Prepared some says = absurd (omega (arith, some, says))
  from-abort-group State·.CommitGroup some says = absurd (omega (arith, some, says, one-group))
  from-abort-group State·.AbortGroup some says = rises-none 3
  from-abort-group State·.Committed some says = to-outcome 3 4 (omega arith) (omega arith)
  from-abort-group State·.Aborted some says = to-outcome 3 5 (omega arith) (omega arith)

  from-committed : (d : State) → 1 ≤ written_at j 4 K → Says d j K → Rises 4 (code_of d)
  unfolding code_of
  from-committed State·.Active some says = absurd (omega (arith, some, says))
  from-committed State·.Prepared some says = absurd (omega (arith, some, says))
  from-committed State·.CommitGroup some says = absurd (omega (arith, some, says))
  from-committed State·.AbortGroup some says = absurd (omega (arith, some, says))
  from-committed State·.Committed some says = rises-none 4
  from-committed State·.Aborted some says = absurd (omega (arith, some, says, one-outcome))

  from-aborted : (d : State) → 1 ≤ written_at j 5 K → Says d j K → Rises 5 (code_of d)
  unfolding code_of
  from-aborted State·.Active some says = absurd (omega (arith, some, says))
  from-aborted State·.Prepared some says = absurd (omega (arith, some, says))
  from-aborted State·.CommitGroup some says = absurd (omega (arith, some, says))
  from-aborted State·.AbortGroup some says = absurd (omega (arith, some, says))
  from-aborted State·.Committed some says = absurd (omega (arith, some, says, one-outcome))
  from-aborted State·.Aborted some says = rises-none 5

  -- the code of a group or an outcome that is on record, while the site has no outcome
  pub record_is_code : (d : State) (code : ℕ) → 2 ≤ code → code ≤ 5 → 1 ≤ written_at j code K → Says d j K → code_of d < 4 → code ≡ code_of d
  record_is_code d code low high some says going =
      by_equal code 2 (λ e. e ∙ sym ((from-commit-group d (rw e at some) says).stays (omega arith) going)) λ n2.
      by_equal code 3 (λ e. e ∙ sym ((from-abort-group d (rw e at some) says).stays (omega arith) going)) λ n3.
      by_equal code 4 (λ e. absurd (omega (arith, going, (from-committed d (rw e at some) says).grows))) λ n4.
      absurd (omega (arith, going, (from-aborted d (subst (λ x. 1 ≤ written_at j x K) (omega (arith, low, high, n2, n3, n4)) some) says).grows))

  -- more of a history says it of a state whose code has risen
  pub state-rises : (H : List Written) → Grown H K → (c d : State) → Says c j H → Says d j K → Rises (code_of c) (code_of d)
  unfolding code_of
  state-rises H grown State·.Active d before after = from_low 0 (code_of d) (omega arith) (omega arith)
  state-rises H grown State·.Prepared d before after =
      from_low 1 (code_of d) (omega arith) (from-prepared d (omega (arith, before, grown.more j 1)) after)
  state-rises H grown State·.CommitGroup d before after = from-commit-group d (omega (arith, before, grown.more j 2)) after
  state-rises H grown State·.AbortGroup d before after = from-abort-group d (omega (arith, before, grown.more j 3)) after
  state-rises H grown State·.Committed d before after = from-committed d (omega (arith, before, grown.more j 4)) after
  state-rises H grown State·.Aborted d before after = from-aborted d (omega (arith, before, grown.more j 5)) after
