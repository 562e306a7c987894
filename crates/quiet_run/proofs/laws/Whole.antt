-- The whole of a quiet day: three rounds one after the other, from a fresh world.
use Prim.Native.Nat.{ℕ, suc, ◌+◌, ◌-◌, ◌*◌, ◌≤◌}
use Rattle.std.specs.Prelude.{true, false, List, ◌∷◌, ◌++◌, ◌≡◌, ltb, length}
use Rattle.std.proofs.Math.Path.{refl, ap, subst}
use Rattle.std.proofs.Common.{sym, ◌∙◌}
use native.Mathlib.Omega.{arith}
use borrow.Author.Tests.{lt-ltb, ne_eqb}
use Rattle.choice.specs.Choice.{pick}
use Rattle.choice.specs.laws.Cases.{by_test, by_equal}
use Rattle.choice.specs.Places.{sum_to}
use Rattle.site.specs.declared.CommitQuorum.{CommitQuorum}
use Rattle.site.specs.declared.AbortQuorum.{AbortQuorum}
use Rattle.site.specs.Fields.{blank_site}
use Rattle.site.specs.Records.{Written, prepare_record, group_record, outcome_record, commit}
use Rattle.command.specs.declared.Command.{Command}
use Rattle.command.specs.declared.Command.TheVariants as Command·
use Rattle.world.specs.declared.World.{World}
use Rattle.world.specs.Sizes.{sizes_number}
use Rattle.world.specs.Worlds.{fresh_sites, fresh_world}
use Rattle.play.specs.Run.{Ran}
use Rattle.safety.proofs.laws.Fresh.{new_world, fresh-new, fresh-length, fresh_at}
use Rattle.quiet.specs.Quiet.{waited, exchange, quiet_in}
use Rattle.quiet_run.proofs.laws.Tables.{table, table_is, table_same}
use Rattle.quiet_run.proofs.laws.Vectors.{codes-zero}
use Rattle.quiet_run.proofs.laws.Stages.{
  Stage,
  fresh,
  voted,
  grouped,
  ended,
  Round,
  votes,
  joins,
  outcomes,
  from,
  to,
  heard,
  knows,
  heard-same,
  knows_same,
  own_code,
  rest_code,
  prepared_in,
  group_in,
  joined_in,
  outcome_in,
  leads_in,
  record_of,
  site_in,
  coordinator_at,
  subordinate_at,
}
use Rattle.quiet_run.proofs.laws.Moves.{told_of, told-small}
use Rattle.quiet_run.proofs.laws.Sites.{rest_at, site_at, all-at_rest}
use Rattle.quiet_run.proofs.laws.Sent.{sent_to, sent-length}
use Rattle.quiet_run.proofs.laws.Leads.{and_then, Leads, ran_same, leads-on}
use Rattle.quiet_run.proofs.laws.Calls.{world_with, world_same}
use Rattle.quiet_run.proofs.laws.Histories.{each_wrote}
use Rattle.quiet_run.proofs.laws.Steps.{opening_of, Agreed, Room, in_round, comes_to, at_rest}

-- how much a round tells, of m others; how many rows there are at a stage, and how much was told by then
unfoldable pub round_news : Round → ℕ → ℕ
round_news r m = sum_to (λ _. told_of r m) m + m

unfoldable pub rows_at : Stage → ℕ → ℕ
rows_at fresh n = 0
rows_at voted n = n
rows_at grouped n = 2 * n
rows_at ended n = 3 * n

unfoldable pub news_at : Stage → ℕ → ℕ
news_at fresh m = 0
news_at voted m = round_news votes m
news_at grouped m = round_news votes m + round_news joins m
news_at ended m = round_news votes m + round_news joins m + round_news outcomes m

-- the store at a stage, from the day's own
unfoldable pub store_at : Stage → ℕ → ℕ → List ℕ → List ℕ
store_at fresh n m s = s
store_at voted n m s = sent_to n votes 0 s m
store_at grouped n m s = sent_to n joins n (sent_to n votes 0 s m) m
store_at ended n m s = sent_to n outcomes (2 * n) (sent_to n joins n (sent_to n votes 0 s m) m) m

-- all records of the run
unfoldable pub quiet_records : ℕ → List Written
quiet_records n = each_wrote prepare_record n ++ each_wrote (group_record commit) n ++ each_wrote (outcome_record commit) n

-- before the first round all sites are blank

blank-first : (n m : ℕ) → coordinator_at n fresh m ≡ blank_site true
unfolding coordinator_at site_in prepared_in group_in joined_in outcome_in leads_in own_code rest_code blank_site
blank-first n m = rw (← codes-zero n (heard m 0 0) (λ k h. heard-same m 0 k))

blank-other : (n j : ℕ) → subordinate_at n fresh j ≡ blank_site true
unfolding subordinate_at site_in prepared_in group_in joined_in outcome_in leads_in own_code rest_code blank_site
blank-other n j = rw (← codes-zero n (knows j 0 0) (λ k h. knows_same j 0 k))

module _ (n m : ℕ) (weights : List ℕ) (c : CommitQuorum) (a : AbortQuorum) (willing : ℕ) where
  -- the world at a stage, and what the whole run leaves
  unfoldable pub world_at : Stage → World
  world_at stage = world_with n weights c a willing (table (rest_at n m stage) 16) (rows_at stage n) (news_at stage m)

  unfoldable pub quiet_end : List ℕ → Ran
  quiet_end s = record { world = world_at ended; store = store_at ended n m s; records = quiet_records n; news = news_at ended m }

module _ (n m : ℕ) (weights : List ℕ) (c : CommitQuorum) (a : AbortQuorum) (willing : ℕ) (agreed : Agreed n m weights c willing) where
  abbrev stands : Stage → World
  stands stage = world_at n m weights c a willing stage

  -- the fresh world is the first
  pub fresh-is : sizes_number n weights c a willing ≡ 0 → fresh_world n weights c a willing ≡ stands fresh
  unfolding new_world world_at world_with rows_at news_at rest_at
  fresh-is e =
      fresh-new n weights c a willing e
      ∙ world_same n weights c a willing (fresh_sites n) (table (rest_at n m fresh) 16) 0 0 0 0
      (table_is (blank_site false) (rest_at n m fresh) 16 (fresh_sites n) (fresh-length n) (λ j h. fresh_at n j agreed.few h ∙ blank j)) refl refl
    where
      blank : (j : ℕ) → pick (ltb j n) (blank_site true) (blank_site false) ≡ rest_at n m fresh j
      blank j =
          by_equal j 0
          (λ z. rw (z, lt-ltb 0 n (omega arith)) (sym (blank-first n m)))
          (λ z. rw (ne_eqb j 0 z) (by_test (ltb j n) (λ t. rw t (sym (blank-other n j))) (λ t. rw t)))

  -- a round tells little
  round_small : (r : Round) → round_news r m ≤ 300
  unfolding round_news
  round_small r = omega (arith, told-small r m (omega arith) m)

  -- so there is room for each
  room_for : (r : Round) (s : List ℕ) → 20480 ≤ length s → Room n (rows_at (from r) n) (store_at (from r) n m s) (news_at (from r) m)
  unfolding from rows_at store_at news_at
  room_for votes s room = record { rows = omega arith; bytes = room; low = omega arith }
  room_for joins s room =
      record {
        rows = omega arith;
        bytes = omega (arith, sent-length n votes 0 s m);
        low = omega (arith, round_small votes);
      }
  room_for outcomes s room =
      record {
        rows = omega arith;
        bytes = omega (arith, sent-length n votes 0 s m, sent-length n joins n (sent_to n votes 0 s m) m);
        low = omega (arith, round_small votes, round_small joins);
      }

  -- a round's rows, news and store are those of the next stage

  next-rows : (r : Round) → rows_at (from r) n + suc m ≡ rows_at (to r) n
  unfolding rows_at from to
  next-rows votes = omega arith
  next-rows joins = omega arith
  next-rows outcomes = omega arith

  next-news : (r : Round) → news_at (from r) m + round_news r m ≡ news_at (to r) m
  unfolding news_at from to
  next-news votes = omega arith
  next-news joins = refl
  next-news outcomes = refl

  next-store : (r : Round) (s : List ℕ) → sent_to n r (rows_at (from r) n) (store_at (from r) n m s) m ≡ store_at (to r) n m s
  unfolding store_at rows_at from to
  next-store votes s = refl
  next-store joins s = refl
  next-store outcomes s = refl

  -- where a round leaves the world: at rest again
  round_done :
      (r : Round) (s : List ℕ) (H : List Written) (told : ℕ) →
      comes_to n m weights c a willing r (rows_at (from r) n) (store_at (from r) n m s) (news_at (from r) m) m m H told
      ≡ record { world = stands (to r); store = store_at (to r) n m s; records = H; news = told }
  unfolding comes_to in_round world_at round_news
  round_done r s H told =
      ran_same _ (record { world = stands (to r); store = store_at (to r) n m s; records = H; news = told })
      (world_same n weights c a willing (table (site_at n m r m m) 16) (table (rest_at n m (to r)) 16) (rows_at (from r) n + suc m) (rows_at (to r) n)
      (news_at (from r) m + (sum_to (λ _. told_of r m) m + m)) (news_at (to r) m)
      (table_same (blank_site false) (site_at n m r m m) (rest_at n m (to r)) 16 (λ j h. all-at_rest n m agreed.size r j))
      (next-rows r) (next-news r))
      (next-store r s) refl refl

  -- a round in an order, at its place in the day
  abbrev pub InOrder : (ℕ → ℕ → List Command) → Type 0
  InOrder order =
      (r : Round) (k : ℕ) (s : List ℕ) (news : ℕ) → Room n k s news →
      Leads (opening_of r ∷ order k m) (at_rest n m weights c a willing r k s news) s
      (comes_to n m weights c a willing r k s news m m (each_wrote (record_of r) (suc m)) (round_news r m))

  module _ (order : ℕ → ℕ → List Command) (rounds : InOrder order) (s : List ℕ) (room : 20480 ≤ length s) where
    round_leads :
        (r : Round) →
        Leads (exchange order (opening_of r) (rows_at (from r) n) m) (stands (from r)) (store_at (from r) n m s)
        (record { world = stands (to r); store = store_at (to r) n m s; records = each_wrote (record_of r) n; news = round_news r m })
    unfolding exchange world_at at_rest
    round_leads r =
        subst (Leads (opening_of r ∷ order (rows_at (from r) n) m) (stands (from r)) (store_at (from r) n m s))
        (round_done r s (each_wrote (record_of r) (suc m)) (round_news r m)
        ∙ ap (λ x. record { world = stands (to r); store = store_at (to r) n m s; records = each_wrote (record_of r) x; news = round_news r m })
        (sym agreed.size))
        (rounds r (rows_at (from r) n) (store_at (from r) n m s) (news_at (from r) m) (room_for r s room))

    -- THE WHOLE RUN
    pub whole-leads : Leads (quiet_in order n) (stands fresh) s (quiet_end n m weights c a willing s)
    unfolding quiet_in and_then quiet_end quiet_records from to record_of opening_of rows_at store_at news_at
    whole-leads =
        let others : m ≡ n - 1 = omega arith in
        subst
        (λ x. Leads (exchange order Command·.Start 0 x ++ exchange order waited n x ++ exchange order waited (2 * n) x) (stands fresh) s
        (quiet_end n m weights c a willing s))
        others
        (leads-on _ _ (leads-on _ _ (round_leads votes) (round_leads joins)) (round_leads outcomes))
