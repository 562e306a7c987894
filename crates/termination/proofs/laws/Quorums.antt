-- Where nobody has an outcome and all are in a group and know it, one group has its quorum; the third round.
use Rattle.std.specs.Prelude.{ℕ, zero, suc, ◌+◌, ◌-◌, ◌*◌, ◌≤◌, ◌<◌, true, List, ◌⊎◌, ◌≡◌, refl, ltb, leb, get_or}
use Rattle.std.proofs.Common.{inl, inr, ap, sym, subst, ◌∙◌, arith, ltb-true, ltb-false, le-leb, leb-true, leb-false}
use Rattle.choice.specs.Places.{sum_to}
use Rattle.choice.specs.laws.Cases.{by_test, by_equal}
use Rattle.weights.specs.Weights.{weight_of, total_weight}
use Rattle.weights.specs.laws.WeightLaws.{weighed, total-below}
use Rattle.vector.specs.Vector.{entry_weight, weigh}
use Rattle.site.specs.State.{commit_reached, abort_reached}
use Rattle.world.specs.declared.World.{World}
use Rattle.world.specs.Sizes.{max_rows}
use Rattle.world.specs.Worlds.{site_of}
use Rattle.world.specs.laws.SizesLaws.{Sized}
use Rattle.world.specs.laws.WorldLaws.{valid-sized}
use Rattle.history.proofs.laws.Weights.{entry-from}
use Rattle.termination.specs.Schedule.{Course, turn, in_turn}
use Rattle.termination.proofs.laws.Timeouts.{Deciding, decided, commits, aborts}
use Rattle.termination.proofs.laws.Fine.{Grows, grows_none, code_at, entry_at}
use Rattle.termination.proofs.laws.Truths.{Open, AllDecided, own-entry, entry-is-code}
use Rattle.termination.proofs.laws.Courses.{Going}
use Rattle.termination.proofs.laws.OneTurn.{Taken}
use Rattle.termination.proofs.laws.Rounds.{Led, round_leads, ready-grows, ReadyTo, GroupedTo}

-- weighing

-- the same entries weigh the same
weigh-same : (weight : ℕ → ℕ) (n code : ℕ) (v u : List ℕ) → ((k : ℕ) → k < n → get_or v k 0 ≡ get_or u k 0) →
    weigh weight n v code ≡ weigh weight n u code
unfolding weigh
weigh-same weight zero code v u same = refl
weigh-same weight (suc k) code v u same =
    omega (arith, weigh-same weight k code v u (λ j h. same j (omega (arith, h))), ap (λ x. entry_weight (weight k) x code) (same k (omega arith)))

-- an entry of 2 or 3 weighs as one or the other
entry_split : (weight x : ℕ) → 2 ≤ x → x < 4 → entry_weight weight x 2 + entry_weight weight x 3 ≡ weight
unfolding entry_weight
entry_split weight x low high = by_equal x 2 (λ e. rw e (omega arith)) (λ e. rw (three e) (omega arith))
  where
    three : (x ≡ 2 → ⊥) → x ≡ 3
    three e = omega (arith, low, high, e)

-- where all entries are 2 or 3, both groups together weigh as much as all sites
weigh_split : (weight : ℕ → ℕ) (n : ℕ) (v : List ℕ) → ((k : ℕ) → k < n → (2 ≤ get_or v k 0) × (get_or v k 0 < 4)) →
    weigh weight n v 2 + weigh weight n v 3 ≡ sum_to weight n
unfolding weigh sum_to
weigh_split weight zero v each = refl
weigh_split weight (suc k) v each =
    let here : (2 ≤ get_or v k 0) × (get_or v k 0 < 4) = each k (omega arith) in
    omega (arith, weigh_split weight k v (λ j h. each j (omega (arith, h))), entry_split (weight k) (get_or v k 0) here.0 here.1)

-- somebody has an outcome, or nobody has
someone : (w : World) (n : ℕ) → ((j : ℕ) × (j < n) × (4 ≤ code_at w j)) ⊎ ((j : ℕ) → j < n → code_at w j < 4)
someone w zero = inr (λ j h. absurd (omega (arith, h)))
someone w (suc n) = go (someone w n)
  where
    go : ((j : ℕ) × (j < n) × (4 ≤ code_at w j)) ⊎ ((j : ℕ) → j < n → code_at w j < 4) →
        ((j : ℕ) × (j < suc n) × (4 ≤ code_at w j)) ⊎ ((j : ℕ) → j < suc n → code_at w j < 4)
    go (inl (j, h, high)) = inl (j, omega (arith, h), high)
    go (inr none) =
        by_test (ltb (code_at w n) 4)
        (λ e. inr (λ j h. by_equal j n
        (λ q. subst (λ x. code_at w x < 4) (sym q) (ltb-true (code_at w n) 4 e)) (λ q. none j (omega (arith, h, q)))))
        (λ e. inl (n, omega arith, ltb-false (code_at w n) 4 e))

module _ (o : World) (s : List ℕ) (t : Course) (start : Going o s t) (ready : ReadyTo o.n t) (grouped : GroupedTo o o.n t) (more : 0 < o.n) where
  -- what site i holds, where nobody has an outcome yet, is what each site's state was
  entries_are : (u : Course) → Going o s u → Grows o t.world u.world → Open o u.world → (i : ℕ) → i < o.n → (j : ℕ) → j < o.n →
      entry_at u.world i j ≡ code_at t.world j
  entries_are u going grown none i h j l =
      let stays : code_at u.world j ≡ code_at t.world j = (grown.codes j l).stays (grouped.group more j l) (none.none j l) in
      by_equal j i
      (λ e. subst (λ x. entry_at u.world i x ≡ code_at u.world x) (sym e) (own-entry o u.world u.store going.fine i h) ∙ stays)
      (λ e. entry-is-code o u.world u.store going.fine none i j h l
      (omega (arith, grouped.known i j h l e, grown.entries i j h l e)) ∙ stays)

  -- site 0's entries at the round's beginning stand for all states
  abbrev v₀ : List ℕ
  v₀ = (site_of t.world 0).codes

  abbrev weight : ℕ → ℕ
  weight = weight_of o.weights

  all-weigh : sum_to weight o.n ≡ total_weight o.weights
  all-weigh =
      let w : World = t.world in
      let sizes : Sized w.n w.weights w.commit w.abort w.willing = valid-sized w start.fine.valid in
      sym (ap (λ x. sum_to (weight_of x) w.n) start.fine.sizes.same_weights_lem ∙ ap (sum_to weight) start.fine.sizes.same-n)
      ∙ sym (total-below w.n w.weights sizes.high (weighed w.n w.weights sizes.weighed))
      ∙ ap total_weight start.fine.sizes.same_weights_lem

  -- no quorum is nothing
  record SomeQuorums : Type 0 where
    commit : 1 ≤ o.commit.0
    abort : 1 ≤ o.abort.0

  some-quorums : SomeQuorums
  some-quorums =
      let w : World = t.world in
      let sizes : Sized w.n w.weights w.commit w.abort w.willing = valid-sized w start.fine.valid in
      let c : w.commit.0 ≡ o.commit.0 = ap (λ x. x.0) start.fine.sizes.same-commit in
      let a : w.abort.0 ≡ o.abort.0 = ap (λ x. x.0) start.fine.sizes.same-abort in
      record {
        commit = omega (arith, c, sizes.quorums_meet, sizes.abort-most);
        abort = omega (arith, a, sizes.quorums_meet, sizes.commit-most);
      }

  -- a member of a group that has its quorum
  data Member (i : ℕ) : Type 0 where
    of-commit : code_at t.world i ≡ 2 → o.commit.0 ≤ weigh weight o.n v₀ 2 → Member i
    of-abort : code_at t.world i ≡ 3 → o.abort.0 ≤ weigh weight o.n v₀ 3 → Member i

  module _ (none : Open o t.world) where
    at_first : (j : ℕ) → j < o.n → get_or v₀ j 0 ≡ code_at t.world j
    at_first j h = entries_are t start (grows_none o t.world) none 0 more j h

    -- C + A is at most W + 1: there is one
    member : o.commit.0 + o.abort.0 ≤ total_weight o.weights + 1 → (i : ℕ) × (i < o.n) × Member i
    member quorums =
        let both : weigh weight o.n v₀ 2 + weigh weight o.n v₀ 3 ≡ sum_to weight o.n =
        weigh_split weight o.n v₀
        (λ k h. (omega (arith, at_first k h, grouped.group more k h), omega (arith, at_first k h, none.none k h))) in
        by_test (leb o.commit.0 (weigh weight o.n v₀ 2))
        (λ e. let enough : o.commit.0 ≤ weigh weight o.n v₀ 2 = leb-true o.commit.0 (weigh weight o.n v₀ 2) e in
        in-commit enough (entry-from weight o.n 2 v₀ (omega (arith, enough, some-quorums))))
        (λ e. let enough : o.abort.0 ≤ weigh weight o.n v₀ 3 =
        omega (arith, leb-false o.commit.0 (weigh weight o.n v₀ 2) e, both, all-weigh, quorums) in
        in-abort enough (entry-from weight o.n 3 v₀ (omega (arith, enough, some-quorums))))
      where
        in-commit : o.commit.0 ≤ weigh weight o.n v₀ 2 → (i : ℕ) × (i < o.n) × (get_or v₀ i 0 ≡ 2) → (i : ℕ) × (i < o.n) × Member i
        in-commit enough (i, h, e) = (i, h, of-commit (sym (at_first i h) ∙ e) enough)

        in-abort : o.abort.0 ≤ weigh weight o.n v₀ 3 → (i : ℕ) × (i < o.n) × (get_or v₀ i 0 ≡ 3) → (i : ℕ) × (i < o.n) × Member i
        in-abort enough (i, h, e) = (i, h, of-abort (sym (at_first i h) ∙ e) enough)

    -- and as long as nobody has an outcome, it decides at its turn
    module _ (i : ℕ) (below : i < o.n) (u : Course) (going : Going o s u) (grown : Grows o t.world u.world) (none_yet : Open o u.world) where
      same-weight : (code : ℕ) → weigh weight o.n (site_of u.world i).codes code ≡ weigh weight o.n v₀ code
      same-weight code =
          weigh-same weight o.n code (site_of u.world i).codes v₀
          (λ k h. entries_are u going grown none_yet i below k h ∙ sym (at_first k h))

      leads : (site_of u.world i).coordinator ≡ true
      leads = (ready-grows i below grown (ready.each i below)).leads (none_yet.none i below)

      same_code : code_at u.world i ≡ code_at t.world i
      same_code = (grown.codes i below).stays (grouped.group more i below) (none_yet.none i below)

      decides : Member i → Deciding o.n o.weights o.commit o.abort (site_of u.world i)
      unfolding commit_reached abort_reached
      decides (of-commit two enough) =
          commits (same_code ∙ two) leads (le-leb o.commit.0 (weigh weight o.n (site_of u.world i).codes 2) (omega (arith, enough, same-weight 2)))
      decides (of-abort three enough) =
          aborts (same_code ∙ three) leads (le-leb o.abort.0 (weigh weight o.n (site_of u.world i).codes 3) (omega (arith, enough, same-weight 3)))

  -- THE THIRD ROUND
  abbrev Ends : (Course → Type 0) → Type 0
  Ends P = Led o s t (in_turn t) (o.n * (2 * o.n - 1)) (o.n * o.n) P

  ends_so : {P Q : Course → Type 0} → (P (in_turn t) → Q (in_turn t)) → Ends P → Ends Q
  ends_so f l = record { going = l.going; leg = l.leg; holds = f l.holds }

  decided-grows : {v w : World} → Grows o v w → AllDecided o v → AllDecided o w
  decided-grows g d = record { each = λ j h. omega (arith, d.each j h, (g.codes j h).grows) }

  module _ (free : t.world.rows + o.n * o.n ≤ max_rows) where
    -- a site that has an outcome tells all at its turn
    from-decided : (j : ℕ) → j < o.n → 4 ≤ code_at t.world j → Ends (λ u. AllDecided o u.world)
    from-decided j below high =
        ends_so {P = λ u. j < o.n → AllDecided o u.world} (λ p. p below)
        (round_leads o s t start (λ c u. j < c → AllDecided o u.world) (λ h. absurd (omega (arith, h)))
        (λ c u inside going grown p v h.
        by_equal j c
        (λ e. v.decides (decided (subst (λ x. 4 ≤ code_at u.world x) e (omega (arith, high, (grown.codes j below).grows)))))
        (λ e. decided-grows v.leg.grows (p (omega (arith, h, e))))) free)

    -- a member decides at its turn, if nobody has before
    from-open : Open o t.world → (i : ℕ) → i < o.n → Member i → Ends (λ u. AllDecided o u.world)
    from-open none i below mem =
        ends_so {P = λ u. AllDecided o u.world ⊎ (Open o u.world × (o.n ≤ i))} last
        (round_leads o s t start (λ c u. AllDecided o u.world ⊎ (Open o u.world × (c ≤ i))) (inr (none, omega arith)) next free)
      where
        last : AllDecided o (in_turn t).world ⊎ (Open o (in_turn t).world × (o.n ≤ i)) → AllDecided o (in_turn t).world
        last (inl d) = d
        last (inr (_, h)) = absurd (omega (arith, h, below))

        next :
            (c : ℕ) (u : Course) → c < o.n → Going o s u → Grows o t.world u.world → AllDecided o u.world ⊎ (Open o u.world × (c ≤ i)) →
            Taken o s c u (turn c u) → AllDecided o (turn c u).world ⊎ (Open o (turn c u).world × (suc c ≤ i))
        next c u inside going grown (inl d) v = inl (decided-grows v.leg.grows d)
        next c u inside going grown (inr (open-yet, h)) v =
            by_equal c i
            (λ e. inl (v.decides (decides none c inside u going grown open-yet (subst Member (sym e) mem))))
            (λ e. on (v.quiet (ready-grows c inside grown (ready.each c inside)) open-yet) (omega (arith, h, e)))
          where
            on : Open o (turn c u).world ⊎ AllDecided o (turn c u).world → suc c ≤ i →
                AllDecided o (turn c u).world ⊎ (Open o (turn c u).world × (suc c ≤ i))
            on (inl still) less = inr (still, less)
            on (inr d) less = inl d

    pub third-round : o.commit.0 + o.abort.0 ≤ total_weight o.weights + 1 → Ends (λ u. AllDecided o u.world)
    third-round quorums = by (someone t.world o.n)
      where
        chosen : Open o t.world → (i : ℕ) × (i < o.n) × Member i → Ends (λ u. AllDecided o u.world)
        chosen none (i, below, mem) = from-open none i below mem

        by : ((j : ℕ) × (j < o.n) × (4 ≤ code_at t.world j)) ⊎ ((j : ℕ) → j < o.n → code_at t.world j < 4) → Ends (λ u. AllDecided o u.world)
        by (inl (j, below, high)) = from-decided j below high
        by (inr none) = let going : Open o t.world = record { none = none } in chosen going (member going quorums)
