-- The rules at a quiet day's sites: what makes site 0 send its command, what the command makes of another site, what a reply makes of site 0.
use Rattle.std.specs.Prelude.{ℕ, zero, suc, ◌*◌, ◌≤◌, ◌<◌, true, false, List, [], ◌∷◌, ◌≡◌, leb}
use Rattle.std.proofs.Math.Path.{refl, ap}
use Rattle.std.proofs.Common.{◌∙◌, arith, le-leb, eq-eqb}
use Rattle.std.proofs.Math.ListN.{get_or}
use Rattle.choice.specs.laws.ChoiceLaws.{pick_ind}
use Rattle.choice.specs.Places.{sum_to}
use Rattle.choice.specs.laws.Stores.{sum_times}
use Rattle.vector.specs.Codes.{level, is_outcome}
use Rattle.weights.specs.Weights.{weight_of}
use Rattle.vector.specs.Vector.{weigh, count, lowest_outcome}
use Rattle.vector.specs.laws.VectorLaws.{lowest-found}
use Rattle.merging.specs.Merging.{rises, merging}
use Rattle.site.specs.declared.Site.{Site}
use Rattle.site.specs.declared.CommitQuorum.{CommitQuorum}
use Rattle.site.specs.declared.AbortQuorum.{AbortQuorum}
use Rattle.site.specs.State.{state_by, state_of, is_terminated, commit_reached}
use Rattle.site.specs.Fields.{with_coordinator, with_prepared, with_group, with_outcome, with_codes}
use Rattle.site.specs.Records.{wrote, group_of, outcome_of, record_code, with_own, write_prepare, join_group, write_outcome}
use Rattle.rules.specs.Rules.{
  Move,
  silent,
  command_row,
  commanding,
  reply_row,
  replying,
  start,
  choose_group,
  decide_commit,
  timeout_in,
  timeout,
  hear,
  adopt_code,
  adopt,
  vote_in,
  join_commit_in,
  after,
  answer,
  bringing,
  after_hearing,
  deliver,
}
use Rattle.quiet_run.proofs.laws.Vectors.{codes_of, codes_at, weigh-all, lowest_of_none}
use Rattle.quiet_run.proofs.laws.Stages.{
  Round,
  votes,
  joins,
  outcomes,
  heard,
  knows,
  heard-low,
  from,
  to,
  kind_of,
  reply_of,
  record_of,
  own_code,
  rest_code,
  prepared_in,
  group_in,
  joined_in,
  outcome_in,
  leads_in,
  site_in,
  coordinator_at,
  subordinate_at,
  Climbs,
  climbs,
}
use Rattle.quiet_run.proofs.laws.Rounds.{opened, command_merged, answered, reply_merged, command-news, reply-news}

-- how much a round's command tells each site, of m others
unfoldable pub told_of : Round → ℕ → ℕ
told_of votes m = 1
told_of joins m = m
told_of outcomes m = m

told-most : (r : Round) (m : ℕ) → m ≤ 16 → told_of r m ≤ 16
unfolding told_of
told-most votes m few = omega arith
told-most joins m few = few
told-most outcomes m few = few

-- and p sites
pub told-small : (r : Round) (m : ℕ) → m ≤ 16 → (p : ℕ) → sum_to (λ _. told_of r m) p ≤ 16 * p
unfolding sum_to
told-small r m few zero = omega arith
told-small r m few (suc p) = omega (arith, told-small r m few p, told-most r m few)

-- what makes site 0 send a round's command: START, then TIMEOUT twice
unfoldable pub opening_move : Round → ℕ → List ℕ → CommitQuorum → AbortQuorum → Site → Move
opening_move votes n weights c a s = start n true s
opening_move joins n weights c a s = timeout 0 n weights c a s
opening_move outcomes n weights c a s = timeout 0 n weights c a s

module _ (n m : ℕ) (size : n ≡ suc m) (few : n ≤ 16) where
  -- where all n entries are one code
  all-weighed : (weight : ℕ → ℕ) (code y : ℕ) → weigh weight n (codes_of n (heard m code y)) code ≡ sum_to weight n
  all-weighed weight code y =
      weigh-all weight n (codes_of n (heard m code y)) code
      (λ k h. codes_at n (heard m code y) k few h ∙ heard-low m code y k (omega arith))

  -- THE COMMAND is sent
  pub opening_move_lem :
      (r : Round) (weights : List ℕ) (c : CommitQuorum) (a : AbortQuorum) → c.0 ≤ sum_to (weight_of weights) n →
      opening_move r n weights c a (coordinator_at n (from r) m)
      ≡ commanding (kind_of r) 0 n (coordinator_at n (to r) 0) (wrote 0 (record_of r) ∷ [])
  unfolding opening_move start from to kind_of record_of coordinator_at site_in prepared_in group_in joined_in outcome_in leads_in own_code rest_code commanding command_row with_coordinator write_prepare with_prepared with_own with_codes timeout timeout_in state_of state_by choose_group count decide_commit commit_reached join_group with_group group_of record_code write_outcome with_outcome outcome_of
  opening_move_lem votes weights c a reach = rw (opened n 0 0 1 few (climbs votes) m size)
  opening_move_lem joins weights c a reach =
      rw (eq-eqb (count n (codes_of n (heard m 1 0)) 1) n (omega (arith, all-weighed (λ _. 1) 1 0, sum_times 1 n)))
      (rw (opened n 0 1 2 few (climbs joins) m size))
  opening_move_lem outcomes weights c a reach =
      rw (le-leb c.0 (weigh (weight_of weights) n (codes_of n (heard m 2 1)) 2) (omega (arith, all-weighed (weight_of weights) 2 1)))
      (rw (opened n 1 2 4 few (climbs outcomes) m size))

  -- no site has shown an outcome
  none-shown : (q x y : ℕ) → is_outcome x ≡ false → is_outcome y ≡ false → lowest_outcome n (codes_of n (heard q x y)) ≡ 0
  unfolding heard
  none-shown q x y p o =
      lowest_of_none n (codes_of n (heard q x y))
      (λ k h. ap is_outcome (codes_at n (heard q x y) k few h) ∙ pick_ind (λ z. is_outcome z ≡ false) (leb k q) x y (λ _. p) (λ _. o))

  -- site 0 has shown that it committed
  first-shown : lowest_outcome n (codes_of n (heard 0 4 2)) ≡ 4
  unfolding lowest_outcome is_outcome
  first-shown =
      let here : get_or (codes_of n (heard 0 4 2)) 0 0 ≡ 4 = codes_at n (heard 0 4 2) 0 few (omega arith) ∙ heard-low 0 4 2 0 (omega arith) in
      lowest-found 0 n (codes_of n (heard 0 4 2)) (omega arith) refl (ap is_outcome here) ∙ here

  module _ (j : ℕ) (unlike : j ≡ 0 → ⊥) (below : j < n) where
    -- where nothing was behind, the command tells of site 0 alone; else of all but the site itself
    told-of-none : (older old new : ℕ) → Climbs older old new → rises older old ≡ false →
        (merging n j 0 (codes_of n (heard 0 new old)) (codes_of n (knows j old older))).news ≡ 1
    told-of-none older old new up e =
        omega (arith, command-news n older old new few up j 0 unlike below (rw e), sum_times 0 n)

    told-of-all : (older old new : ℕ) → Climbs older old new → rises older old ≡ true →
        (merging n j 0 (codes_of n (heard 0 new old)) (codes_of n (knows j old older))).news ≡ m
    told-of-all older old new up e =
        omega (arith, command-news n older old new few up j 1 unlike below (rw e), sum_times 1 n)

    -- THE COMMAND arrives
    pub command-move :
        (r : Round) →
        deliver j n true (command_row (kind_of r) 0 n (coordinator_at n (to r) 0)) (subordinate_at n (from r) j)
        ≡ bringing (told_of r m) (replying (reply_of r) j 0 (record { site = subordinate_at n (to r) j; records = wrote j (record_of r) ∷ [] }))
    unfolding deliver after_hearing hear bringing replying reply_row command_row answer adopt adopt_code after vote_in join_commit_in from to kind_of reply_of record_of told_of coordinator_at subordinate_at site_in prepared_in group_in joined_in outcome_in leads_in own_code rest_code with_codes state_of state_by is_terminated write_prepare with_prepared with_own join_group with_group group_of record_code write_outcome with_outcome outcome_of rises level is_outcome
    command-move votes =
        rw (told-of-none 0 0 1 (climbs votes) refl, command_merged n 0 0 1 few (climbs votes) j unlike)
        (rw (none-shown 0 1 0 refl refl, answered n 0 0 1 few (climbs votes) j unlike below))
    command-move joins =
        rw (told-of-all 0 1 2 (climbs joins) refl, command_merged n 0 1 2 few (climbs joins) j unlike)
        (rw (none-shown 0 2 1 refl refl, answered n 0 1 2 few (climbs joins) j unlike below))
    command-move outcomes =
        rw (told-of-all 1 2 4 (climbs outcomes) refl, command_merged n 1 2 4 few (climbs outcomes) j unlike)
        (rw (first-shown, answered n 1 2 4 few (climbs outcomes) j unlike below))

  -- A REPLY arrives
  pub reply-move :
      (r : Round) (q : ℕ) → suc q < n →
      deliver 0 n true (reply_row (reply_of r) (suc q) 0 (subordinate_at n (to r) (suc q))) (coordinator_at n (to r) q)
      ≡ bringing 1 (silent (coordinator_at n (to r) (suc q)) [])
  unfolding deliver after_hearing hear bringing silent reply_row answer adopt adopt_code to reply_of coordinator_at subordinate_at site_in prepared_in group_in joined_in outcome_in leads_in own_code rest_code with_codes state_of state_by is_terminated from is_outcome
  reply-move votes q below =
      rw (reply-news n 0 0 1 few (climbs votes) q below, reply_merged n 0 0 1 few (climbs votes) q, none-shown (suc q) 1 0 refl refl)
  reply-move joins q below =
      rw (reply-news n 0 1 2 few (climbs joins) q below, reply_merged n 0 1 2 few (climbs joins) q, none-shown (suc q) 2 1 refl refl)
  reply-move outcomes q below =
      rw (reply-news n 1 2 4 few (climbs outcomes) q below, reply_merged n 1 2 4 few (climbs outcomes) q)
