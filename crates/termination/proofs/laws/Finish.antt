-- The theorems: the three rounds finish.
use Prim.Native.Nat.{ℕ, zero, suc, ◌+◌, ◌-◌, ◌*◌, ◌≤◌, ◌<◌}
use Rattle.std.specs.Prelude.{Bool, true, false, List, [], ◌++◌, ◌≡◌, refl, ltb, leb, length}
use Rattle.std.proofs.Common.{ap, sym, subst, ◌∙◌, arith, ltb-false, leb-true}
use Rattle.std.proofs.Math.Nat.{mul-le-mul_right}
use Rattle.choice.specs.Places.{all_below}
use Rattle.choice.specs.laws.Cases.{by_test, by_equal}
use Rattle.choice.specs.laws.Stores.{all-each}
use Rattle.site.specs.declared.Group.{Group}
use Rattle.site.specs.declared.Group.TheVariants as Group·
use Rattle.site.specs.declared.Outcome.{Outcome}
use Rattle.site.specs.declared.Outcome.TheVariants as Outcome·
use Rattle.site.specs.declared.Site.{Site}
use Rattle.site.specs.declared.CommitQuorum.{CommitQuorum}
use Rattle.site.specs.declared.AbortQuorum.{AbortQuorum}
use Rattle.site.specs.State.{state_by, state_of, code_of}
use Rattle.site.specs.Records.{Kind, commit, abort, outcome_of}
use Rattle.world.specs.declared.World.{World}
use Rattle.world.specs.Sizes.{store_bytes, sizes_number}
use Rattle.world.specs.Worlds.{site_of, zero_world, fresh_world}
use Rattle.world.specs.laws.SizesLaws.{sized}
use Rattle.world.specs.laws.WorldLaws.{valid-sized}
use Rattle.header.specs.Headers.{header_of, header_weights, header_world}
use Rattle.play.specs.Run.{run}
use Rattle.safety.specs.Claims.{fresh_run}
use Rattle.safety.proofs.laws.Fresh.{new_world, fresh-new, fresh-zero, zero_invalid, new_invariant}
use Rattle.safety.proofs.laws.Invariant.{Invariant}
use Rattle.safety.proofs.laws.Runs.{run_keeps, run-terms, run-stuck}
use Rattle.safety.proofs.laws.RunStores.{runs_keep_beyond}
use Rattle.safety.proofs.laws.RunWorlds.{Whole, fresh-whole}
use Rattle.member.specs.laws.SoundSites.{state-small}
use Rattle.list.specs.Play.{Play, refused_list, stopped, play_list}
use Rattle.list.specs.Claims.{IsRun}
use Rattle.list.specs.laws.ListTheorems.{short-refused, by-run, list-news-is-low}
use Rattle.quiet_run.specs.Claims.{AllAccepted, asks_of}
use Rattle.termination.specs.Schedule.{Course, set_out, in_turn, rounds, three_rounds}
use Rattle.termination.specs.Claims.{AllBack, Finishes, NewsFree, ListsFinish, ListNewsFree, CallsFinish}
use Rattle.termination.proofs.laws.Fine.{Fine, code_at}
use Rattle.termination.proofs.laws.Timeouts.{code_in}
use Rattle.termination.proofs.laws.Truths.{AllDecided, never_both}
use Rattle.termination.proofs.laws.Courses.{run-set_out, Going, Leg, leg-none, leg-then, leg-most}
use Rattle.termination.proofs.laws.Rounds.{Led, ready-grows, ReadyTo, first_round, GroupedTo, second_round}
use Rattle.termination.proofs.laws.Quorums.{third-round}

-- an outcome's code
committed : (x : Outcome) (g : Group) (p : Bool) → code_of (state_by x g p) ≡ 4 → x ≡ outcome_of commit
unfolding state_by code_of outcome_of
committed Outcome·.Commit g p e = refl
committed Outcome·.Abort g p e = absurd (omega (arith, e))
committed Outcome·.None Group·.Commit p e = absurd (omega (arith, e))
committed Outcome·.None Group·.Abort p e = absurd (omega (arith, e))
committed Outcome·.None Group·.None true e = absurd (omega (arith, e))
committed Outcome·.None Group·.None false e = absurd (omega (arith, e))

aborted : (x : Outcome) (g : Group) (p : Bool) → code_of (state_by x g p) ≡ 5 → x ≡ outcome_of abort
unfolding state_by code_of outcome_of
aborted Outcome·.Abort g p e = refl
aborted Outcome·.Commit g p e = absurd (omega (arith, e))
aborted Outcome·.None Group·.Commit p e = absurd (omega (arith, e))
aborted Outcome·.None Group·.Abort p e = absurd (omega (arith, e))
aborted Outcome·.None Group·.None true e = absurd (omega (arith, e))
aborted Outcome·.None Group·.None false e = absurd (omega (arith, e))

-- an outcome shows in the code, and is what the code shows
decided_code : (x : Outcome) (g : Group) (p : Bool) → (x ≡ Outcome·.None → ⊥) → 4 ≤ code_of (state_by x g p)
unfolding state_by code_of
decided_code Outcome·.Commit g p some = omega arith
decided_code Outcome·.Abort g p some = omega arith
decided_code Outcome·.None g p some = absurd (some refl)

kept-outcome : (s u : Site) → (s.outcome ≡ Outcome·.None → ⊥) → (4 ≤ code_in s → code_in u ≡ code_in s) → u.outcome ≡ s.outcome
unfolding state_of
kept-outcome s u some same =
    let e : code_in u ≡ code_in s = same (decided_code s.outcome s.group s.prepared some) in
    by_equal (code_in s) 4
    (λ four. committed u.outcome u.group u.prepared (e ∙ four) ∙ sym (committed s.outcome s.group s.prepared four))
    (λ other. let five : code_in s ≡ 5 =
    omega (arith, other, decided_code s.outcome s.group s.prepared some, state-small (state_of s)) in
    aborted u.outcome u.group u.prepared (e ∙ five) ∙ sym (aborted s.outcome s.group s.prepared five))

-- where everybody has an outcome, it is the same
record Agreed (o w : World) : Type 0 where
  outcome : Kind
  everywhere : (j : ℕ) → j < o.n → (site_of w j).outcome ≡ outcome_of outcome

agreed : (o w : World) (store : List ℕ) → Fine o w store → AllDecided o w → 0 < o.n → Agreed o w
unfolding state_of
agreed o w store fine all more =
    by_equal (code_at w 0) 4
    (λ four. record {
      outcome = commit;
      everywhere = λ j h.
          by_equal (code_at w j) 4 (committed (site_of w j).outcome (site_of w j).group (site_of w j).prepared)
          (λ e. absurd (never_both o w store fine 0 j more h four (five j h e)));
    })
    (λ other. record {
      outcome = abort;
      everywhere = λ j h.
          by_equal (code_at w j) 4 (λ four. absurd (never_both o w store fine j 0 h more four (five 0 more other)))
          (λ e. aborted (site_of w j).outcome (site_of w j).group (site_of w j).prepared (five j h e));
    })
  where
    five : (j : ℕ) → j < o.n → (code_at w j ≡ 4 → ⊥) → code_at w j ≡ 5
    five j h e = omega (arith, all.each j h, state-small (state_of (site_of w j)), e)

-- FROM A WORLD with which the rounds go on
module _ (o : World) (s : List ℕ) (fine : Fine o o s) (back : AllBack o) where
  abbrev t₀ : Course
  t₀ = set_out o s

  abbrev t₁ : Course
  t₁ = in_turn t₀

  abbrev t₂ : Course
  t₂ = in_turn t₁

  abbrev t₃ : Course
  t₃ = in_turn t₂

  abbrev A_round : Course → (Course → Type 0) → Type 0
  A_round t P = Led o s t (in_turn t) (o.n * (2 * o.n - 1)) (o.n * o.n) P

  setting_out : Going o s t₀
  unfolding set_out asks_of AllAccepted
  setting_out = record { fine = fine; is-run = run-set_out o s; accepted = tt }

  more : 0 < o.n
  more = omega (arith, valid-sized o fine.valid)

  one : A_round t₀ (ReadyTo o.n)
  unfolding set_out
  one = first_round o s t₀ setting_out (omega (arith, back.free))

  two : A_round t₁ (GroupedTo o o.n)
  unfolding set_out
  two = second_round o s t₁ one.going one.holds (omega (arith, back.free, one.leg.rows))

  ready : ReadyTo o.n t₂
  ready = record { each = λ i h. ready-grows i h two.leg.grows (one.holds.each i h) }

  three : A_round t₂ (λ u. AllDecided o u.world)
  unfolding set_out
  three =
      third-round o s t₂ two.going ready two.holds more (omega (arith, back.free, one.leg.rows, two.leg.rows))
      (omega (arith, back.quorums))

  -- what holds after none of the rounds, one, two and three
  Stage : ℕ → Course → Type 0
  Stage zero u = Unit
  Stage (suc zero) u = ReadyTo o.n u
  Stage (suc (suc zero)) u = GroupedTo o o.n u
  Stage (suc (suc (suc k))) u = AllDecided o u.world

  abbrev After : ℕ → Type 0
  After k = Led o s t₀ (rounds k t₀) (k * (o.n * (2 * o.n - 1))) (k * (o.n * o.n)) (Stage k)

  so_far : (k : ℕ) {e r : ℕ} → e ≤ k * (o.n * (2 * o.n - 1)) → r ≤ k * (o.n * o.n) → Going o s (rounds k t₀) → Leg o t₀ (rounds k t₀) e r →
      Stage k (rounds k t₀) → After k
  so_far k few free going leg holds =
      record { going = going; leg = leg-most t₀ (rounds k t₀) (k * (o.n * (2 * o.n - 1))) (k * (o.n * o.n)) few free leg; holds = holds }

  after : (k : ℕ) → k ≤ 3 → After k
  unfolding rounds Stage
  after zero h = so_far 0 (omega arith) (omega arith) setting_out (leg-none o t₀) tt
  after (suc zero) h = so_far 1 (omega arith) (omega arith) one.going one.leg one.holds
  after (suc (suc zero)) h = so_far 2 (omega arith) (omega arith) two.going (leg-then t₀ t₁ t₂ one.leg two.leg) two.holds
  after (suc (suc (suc zero))) h =
      so_far 3 (omega arith) (omega arith) three.going (leg-then t₀ t₁ t₃ one.leg (leg-then t₁ t₂ t₃ two.leg three.leg)) three.holds
  after (suc (suc (suc (suc k)))) h = absurd (omega (arith, h))

  -- rounds after which everybody has an outcome
  finishes_by : (k : ℕ) → k ≤ 3 → (Stage k (rounds k t₀) → AllDecided o (rounds k t₀).world) → Finishes o s (rounds k t₀)
  unfolding set_out
  finishes_by k few decided =
      let u : After k = after k few in
      let end : Agreed o (rounds k t₀).world = agreed o (rounds k t₀).world (rounds k t₀).store u.going.fine (decided u.holds) more in
      record {
        accepted = u.going.accepted;
        events = omega (arith, u.leg.events, mul-le-mul_right (o.n * (2 * o.n - 1)) few);
        rows = omega (arith, u.leg.rows, mul-le-mul_right (o.n * o.n) few);
        outcome = end.outcome;
        everywhere = end.everywhere;
        kept = λ j h some. kept-outcome (site_of o j) (site_of (rounds k t₀).world j) some (u.leg.grows.codes j h).ends;
      }

  -- three are so many
  finish : Finishes o s (three_rounds o s)
  unfolding three_rounds Stage
  finish = finishes_by _ (omega arith) (λ decided. decided)

-- the world of zeros is not such a world
never-zero : AllBack zero_world → ⊥
unfolding zero_world
never-zero back = omega (arith, back.quorums)

-- THEOREM 4
pub calls-finish : CallsFinish
calls-finish n weights c a willing store asks room back news =
    by_equal (sizes_number n weights c a willing) 0
    (λ e. finish (fresh_run n weights c a willing store asks).world (fresh_run n weights c a willing store asks).store (fine e) back)
    (λ e. absurd (never-zero (subst AllBack (stuck e) back)))
  where
    stuck : (sizes_number n weights c a willing ≡ 0 → ⊥) → (fresh_run n weights c a willing store asks).world ≡ zero_world
    stuck e = ap (λ w. (run w store asks).world) (fresh-zero n weights c a willing e) ∙ (run-stuck zero_world store asks zero_invalid).0

    fine : sizes_number n weights c a willing ≡ 0 →
        Fine (fresh_run n weights c a willing store asks).world (fresh_run n weights c a willing store asks).world
        (fresh_run n weights c a willing store asks).store
    fine e =
        let whole : Whole (fresh_run n weights c a willing store asks).world = fresh-whole n weights c a willing store asks e in
        record {
          sizes = record { same-n = refl; same_weights_lem = refl; same-commit = refl; same-abort = refl };
          history = [] ++ (fresh_run n weights c a willing store asks).records;
          inv =
              subst (λ w. Invariant (run w store asks).world (run w store asks).store ([] ++ (run w store asks).records))
              (sym (fresh-new n weights c a willing e))
              (run_keeps (new_world n weights c a willing) store asks []
              (new_invariant n weights c a willing store (sized n weights c a willing e).high));
          shaped = whole.shaped;
          valid = whole.valid;
          room = omega (arith, (runs_keep_beyond (fresh_world n weights c a willing) store asks).same_length, room);
          up = back.up;
          low = omega (arith, news.free);
        }

-- LISTS

-- a world from the maker on has at most sixteen sites
fresh-few : (n : ℕ) (weights : List ℕ) (c : CommitQuorum) (a : AbortQuorum) (willing : ℕ) → (fresh_world n weights c a willing).n ≤ 16
unfolding new_world zero_world
fresh-few n weights c a willing =
    by_equal (sizes_number n weights c a willing) 0
    (λ e. omega (arith, ap (λ w. w.n) (fresh-new n weights c a willing e), (sized n weights c a willing e).high))
    (λ e. omega (arith, ap (λ w. w.n) (fresh-zero n weights c a willing e)))

list-few : (store list : List ℕ) → (play_list store list).played.world.n ≤ 16
unfolding header_world refused_list stopped zero_world
list-few store list =
    by-run (λ p. p.played.world.n ≤ 16) store list (λ number. omega arith)
    (λ r. omega (
      arith,
      ap (λ w. w.n) r.same-world,
      ap (λ t. t.n) (run-terms (header_world list) store (play_list store list).asks),
      fresh-few (header_of list).n (header_weights list) (header_of list).commit (header_of list).abort (header_of list).willing,
    ))

-- looked up, for at most sixteen sites
news-table : all_below (λ n. leb (3 * (n * (n - 1))) 720) 17 ≡ true
unfolding all_below
news-table = refl

news-most : (n : ℕ) → n ≤ 16 → 3 * (n * (n - 1)) ≤ 720
news-most n few =
    leb-true (3 * (n * (n - 1))) 720 (all-each (λ n. leb (3 * (n * (n - 1))) 720) 17 news-table n (omega (arith, few)))

-- THEOREM 3
pub list-news-free : ListNewsFree
list-news-free store list =
    record { free = omega (arith, list-news-is-low store list, news-most (play_list store list).played.world.n (list-few store list)) }

-- THEOREM 2
pub lists_finish : ListsFinish
unfolding header_world refused_list stopped
lists_finish store list =
    by_test (ltb (length store) store_bytes)
    (λ short back. absurd (never-zero (subst AllBack (ap (λ p. p.played.world) (short-refused store list short)) back)))
    (λ long back. by-run Done store list (λ number zeros. absurd (never-zero zeros)) (run-finishes (ltb-false (length store) store_bytes long)) back)
  where
    Done : Play → Type 0
    Done p = AllBack p.played.world → Finishes p.played.world p.store (three_rounds p.played.world p.store)

    -- from world and store of a run
    From : World → List ℕ → Type 0
    From w s = AllBack w → NewsFree w → Finishes w s (three_rounds w s)

    run-finishes : store_bytes ≤ length store → IsRun (header_world list) store list (play_list store list) → Done (play_list store list)
    run-finishes room r back =
        subst (From (play_list store list).played.world) r.same_store
        (subst (λ w. From w (run (header_world list) store (play_list store list).asks).store) r.same-world
        (calls-finish (header_of list).n (header_weights list) (header_of list).commit (header_of list).abort (header_of list).willing store
        (play_list store list).asks room))
        back (list-news-free store list)
