-- The steps of a round of a quiet day: site 0 sends its command, a site gets it, site 0 gets a reply. From every p and q each leads on, so any
-- way from none to all of both leads to the same.
use Prim.Native.Nat.{ℕ, suc, ◌+◌, ◌≤◌, ◌<◌}
use Rattle.std.specs.Prelude.{true, false, List, [], ◌∷◌, ◌≡◌, length, set}
use Rattle.std.proofs.Math.Path.{refl, ap}
use Rattle.std.proofs.Common.{sym, subst, ◌∙◌, arith}
use Rattle.choice.specs.Places.{sum_to}
use Rattle.weights.specs.Weights.{weight_of}
use Rattle.bits.specs.Bits.{has_bit, only_site}
use Rattle.row.specs.Rows.{no_row, get_row, row_known}
use Rattle.site.specs.declared.CommitQuorum.{CommitQuorum}
use Rattle.site.specs.declared.AbortQuorum.{AbortQuorum}
use Rattle.site.specs.State.{state_by, state_of, is_active}
use Rattle.site.specs.Fields.{blank_site}
use Rattle.site.specs.Records.{Written, wrote}
use Rattle.rules.specs.Rules.{Move, silent, command_row, commanding, reply_row, replying, bringing, deliver}
use Rattle.command.specs.declared.Command.{Command}
use Rattle.command.specs.declared.Command.TheVariants as Command·
use Rattle.world.specs.declared.World.{World}
use Rattle.world.specs.Worlds.{site_of}
use Rattle.play.specs.Run.{Ran}
use Rattle.quiet.specs.Quiet.{row_to, waited}
use Rattle.quiet_run.proofs.laws.Tables.{table, table_at, table-set}
use Rattle.bits.specs.laws.Sets.{other_has}
use Rattle.quiet_run.proofs.laws.Stages.{
  Round,
  votes,
  joins,
  outcomes,
  from,
  to,
  kind_of,
  reply_of,
  record_of,
  prepared_in,
  group_in,
  outcome_in,
  site_in,
  coordinator_at,
  subordinate_at,
}
use Rattle.quiet_run.proofs.laws.Moves.{told_of, told-small, opening_move, opening_move_lem, command-move, reply-move}
use Rattle.quiet_run.proofs.laws.Sites.{site_at, rest_at, at_first, at_moved, at_waiting, command-leaves, reply-leaves, rest-opens}
use Rattle.quiet_run.proofs.laws.Sent.{command_of, reply_from, sent_to, kind-small, command-reads, reply-reads, command-known, reply-known}
use Rattle.quiet_run.proofs.laws.Leads.{Takes, ran_same}
use Rattle.quiet_run.proofs.laws.Calls.{world_with, world_same, with_row, without_row, deliver-row, deliver-silent, start-row, timeout-row}

-- what makes site 0 send a round's command
unfoldable pub opening_of : Round → Command
opening_of votes = Command·.Start
opening_of joins = waited
opening_of outcomes = waited

takes_as : {c : Command} {w : World} {s : List ℕ} {r t : Ran} → r ≡ t → Takes c w s r → Takes c w s t
takes_as {c} {w} {s} e k = subst (Takes c w s) e k

-- the sizes of a quiet day: m others beside site 0, all of them willing, and a commit quorum that all sites together reach
pub record Agreed (n m : ℕ) (weights : List ℕ) (c : CommitQuorum) (willing : ℕ) : Type 0 where
  pub size : n ≡ suc m
  pub few : n ≤ 16
  pub will : (j : ℕ) → j < n → has_bit willing j ≡ true
  pub reach : c.0 ≤ sum_to (weight_of weights) n

-- a round's place in the day: its command is row k of the store s, and so much was told before. There is room for all of it
pub record Room (n k : ℕ) (s : List ℕ) (news : ℕ) : Type 0 where
  pub rows : k + n ≤ 1024
  pub bytes : 20480 ≤ length s
  pub low : news ≤ 1000

-- site 0's move that sends the command
unfoldable opening_sent : ℕ → Round → Move
opening_sent n r = commanding (kind_of r) 0 n (coordinator_at n (to r) 0) (wrote 0 (record_of r) ∷ [])

sends : (n : ℕ) (r : Round) → (opening_sent n r).step.row.kind ≡ 0 → ⊥
unfolding opening_sent commanding command_row
sends n r z = omega (arith, (kind-small r).0)

opens_quietly : (n : ℕ) (r : Round) (news : ℕ) → news ≤ 1000 → news + (opening_sent n r).step.news ≤ 491520
unfolding opening_sent commanding
opens_quietly n r news low = omega arith

module _ (n m : ℕ) (weights : List ℕ) (c : CommitQuorum) (a : AbortQuorum) (willing : ℕ) (r : Round) (k : ℕ) (s : List ℕ) (news : ℕ) where
  -- the world after p commands and q replies, and what a call leaves that comes there
  unfoldable pub in_round : ℕ → ℕ → World
  in_round p q = world_with n weights c a willing (table (site_at n m r p q) 16) (k + suc p) (news + (sum_to (λ _. told_of r m) p + q))

  unfoldable pub comes_to : ℕ → ℕ → List Written → ℕ → Ran
  comes_to p q H told = record { world = in_round p q; store = sent_to n r k s p; records = H; news = told }

  -- the world before the round
  unfoldable pub at_rest : World
  at_rest = world_with n weights c a willing (table (rest_at n m (from r)) 16) k news

  module _ (agreed : Agreed n m weights c willing) (place : Room n k s news) where
    -- a site of it
    site-in : (p q j : ℕ) → j < n → site_of (in_round p q) j ≡ site_at n m r p q j
    unfolding site_of in_round world_with
    site-in p q j h = table_at (site_at n m r p q) 16 j (blank_site false) (omega arith)

    -- a command arrives
    pub command-step : (p q : ℕ) → p < m → q ≤ p →
        Takes (row_to k (suc p)) (in_round p q) (sent_to n r k s p) (comes_to (suc p) q (wrote (suc p) (record_of r) ∷ []) (told_of r m))
    unfolding in_round comes_to with_row sent_to reply_from sum_to bringing replying reply_row command_of command_row subordinate_at site_in
    command-step p q less most =
        takes_as moved
        (deliver-row n weights c a willing (table (site_at n m r p q) 16) (k + suc p) then (sent_to n r k s p) k (suc p) (omega arith) (omega arith)
        (ap (row_known n) row ∙ command-known n agreed.few (omega arith) r) (ap (λ x. has_bit x.destinations (suc p)) row ∙ sent) (agreed.will (suc p) (omega arith))
        (ap (λ x. x.up) here ∙ up) move moves low some (omega arith))
      where
        then : ℕ
        then = news + (sum_to (λ _. told_of r m) p + q)

        move : Move
        move = bringing (told_of r m) (replying (reply_of r) (suc p) 0 (record { site = subordinate_at n (to r) (suc p); records = wrote (suc p) (record_of r) ∷ [] }))

        row : get_row (sent_to n r k s p) k ≡ command_of n r
        row = command-reads n r k s agreed.few (omega arith) place.rows place.bytes p

        here : site_of (in_round p q) (suc p) ≡ subordinate_at n (from r) (suc p)
        here = site-in p q (suc p) (omega arith) ∙ at_waiting n m r p q (suc p) (λ z. omega arith) (omega arith) (omega arith)

        up : (subordinate_at n (from r) (suc p)).up ≡ true
        up = refl

        sent : has_bit (command_of n r).destinations (suc p) ≡ true
        sent = other_has n 0 (suc p) agreed.few (omega arith) (omega arith) (λ z. omega arith)

        moves : deliver (suc p) n true (get_row (sent_to n r k s p) k) (site_of (in_round p q) (suc p)) ≡ move
        moves =
            ap (λ x. deliver (suc p) n true x (site_of (in_round p q) (suc p))) row ∙ ap (deliver (suc p) n true (command_of n r)) here
            ∙ command-move n m agreed.size agreed.few (suc p) (λ z. omega arith) (omega arith) r

        low : then + move.step.news ≤ 491520
        low = omega (arith, told-small r m (omega arith) (suc p))

        some : move.step.row.kind ≡ 0 → ⊥
        some z = omega (arith, (kind-small r).2)

        moved :
            with_row n weights c a willing (table (site_at n m r p q) 16) (k + suc p) then (sent_to n r k s p) (suc p) move
            ≡ comes_to (suc p) q (wrote (suc p) (record_of r) ∷ []) (told_of r m)
        moved =
            ran_same (with_row n weights c a willing (table (site_at n m r p q) 16) (k + suc p) then (sent_to n r k s p) (suc p) move)
            (comes_to (suc p) q (wrote (suc p) (record_of r) ∷ []) (told_of r m))
            (world_same n weights c a willing (set (table (site_at n m r p q) 16) (suc p) (subordinate_at n (to r) (suc p))) (table (site_at n m r (suc p) q) 16)
            (k + suc p + 1) (k + suc (suc p)) (then + told_of r m) (news + (sum_to (λ _. told_of r m) (suc p) + q))
            (table-set (blank_site false) (site_at n m r p q) (site_at n m r (suc p) q) 16 (suc p) (subordinate_at n (to r) (suc p)) (omega arith)
            (sym (at_moved n m r (suc p) q (suc p) (λ z. omega arith) (omega arith) (omega arith))) (λ j h e. command-leaves n m r p q j e))
            (omega arith) (omega arith))
            refl refl refl

    -- a reply arrives
    pub reply-step : (p q : ℕ) → q < p → p ≤ m →
        Takes (row_to (k + suc q) 0) (in_round p q) (sent_to n r k s p) (comes_to p (suc q) [] 1)
    unfolding in_round comes_to without_row reply_from bringing silent no_row reply_row coordinator_at site_in only_site has_bit
    reply-step p q less most =
        takes_as moved
        (deliver-silent n weights c a willing (table (site_at n m r p q) 16) (k + suc p) then (sent_to n r k s p) (k + suc q) 0 (omega arith) (omega arith)
        (ap (row_known n) row ∙ reply-known n agreed.few r (suc q) (omega arith)) (ap (λ x. has_bit x.destinations 0) row) (agreed.will 0 (omega arith))
        (ap (λ x. x.up) here) move moves (omega (arith, told-small r m (omega arith) p)) refl)
      where
        then : ℕ
        then = news + (sum_to (λ _. told_of r m) p + q)

        move : Move
        move = bringing 1 (silent (coordinator_at n (to r) (suc q)) [])

        row : get_row (sent_to n r k s p) (k + suc q) ≡ reply_from n r (suc q)
        row = reply-reads n r k s agreed.few (omega arith) place.rows place.bytes p q less (omega arith)

        here : site_of (in_round p q) 0 ≡ coordinator_at n (to r) q
        here = site-in p q 0 (omega arith) ∙ at_first n m r p q

        moves : deliver 0 n true (get_row (sent_to n r k s p) (k + suc q)) (site_of (in_round p q) 0) ≡ move
        moves =
            ap (λ x. deliver 0 n true x (site_of (in_round p q) 0)) row ∙ ap (deliver 0 n true (reply_from n r (suc q))) here
            ∙ reply-move n m agreed.size agreed.few r q (omega arith)

        moved :
            without_row n weights c a willing (table (site_at n m r p q) 16) (k + suc p) then (sent_to n r k s p) 0 move ≡ comes_to p (suc q) [] 1
        moved =
            ran_same (without_row n weights c a willing (table (site_at n m r p q) 16) (k + suc p) then (sent_to n r k s p) 0 move) (comes_to p (suc q) [] 1)
            (world_same n weights c a willing (set (table (site_at n m r p q) 16) 0 (coordinator_at n (to r) (suc q))) (table (site_at n m r p (suc q)) 16)
            (k + suc p) (k + suc p) (then + 1) (news + (sum_to (λ _. told_of r m) p + suc q))
            (table-set (blank_site false) (site_at n m r p q) (site_at n m r p (suc q)) 16 0 (coordinator_at n (to r) (suc q)) (omega arith)
            (sym (at_first n m r p (suc q))) (λ j h e. reply-leaves n m r p q j e))
            refl (omega arith))
            refl refl refl

    -- the command is sent

    rest-first : site_of at_rest 0 ≡ coordinator_at n (from r) m
    unfolding at_rest site_of world_with rest_at
    rest-first = table_at (rest_at n m (from r)) 16 0 (blank_site false) (omega arith)

    rest_up : (site_of at_rest 0).up ≡ true
    unfolding coordinator_at site_in
    rest_up = ap (λ x. x.up) rest-first

    opens : opening_move r n weights c a (site_of at_rest 0) ≡ opening_sent n r
    unfolding opening_sent
    opens = ap (opening_move r n weights c a) rest-first ∙ opening_move_lem n m agreed.size agreed.few r weights c a agreed.reach

    opened-to :
        with_row n weights c a willing (table (rest_at n m (from r)) 16) k news s 0 (opening_sent n r) ≡ comes_to 0 0 (wrote 0 (record_of r) ∷ []) 0
    unfolding opening_sent with_row comes_to in_round sent_to command_of commanding sum_to
    opened-to =
        ran_same (with_row n weights c a willing (table (rest_at n m (from r)) 16) k news s 0 (opening_sent n r)) (comes_to 0 0 (wrote 0 (record_of r) ∷ []) 0)
        (world_same n weights c a willing (set (table (rest_at n m (from r)) 16) 0 (coordinator_at n (to r) 0)) (table (site_at n m r 0 0) 16) (k + 1) (k + suc 0)
        (news + 0) (news + (0 + 0))
        (table-set (blank_site false) (rest_at n m (from r)) (site_at n m r 0 0) 16 0 (coordinator_at n (to r) 0) (omega arith) (sym (at_first n m r 0 0))
        (λ j h e. rest-opens n m r j e))
        (omega arith) (omega arith))
        refl refl refl

module _ (n m : ℕ) (weights : List ℕ) (c : CommitQuorum) (a : AbortQuorum) (willing : ℕ) (agreed : Agreed n m weights c willing) where
  rest_active :
      (k : ℕ) (s : List ℕ) (news : ℕ) → Room n k s news → is_active (state_of (site_of (at_rest n m weights c a willing votes k s news) 0)) ≡ true
  unfolding from coordinator_at site_in prepared_in group_in outcome_in state_of state_by is_active
  rest_active k s news place = ap (λ x. is_active (state_of x)) (rest-first n m weights c a willing votes k s news agreed place)

  pub opening-step :
      (r : Round) (k : ℕ) (s : List ℕ) (news : ℕ) → Room n k s news →
      Takes (opening_of r) (at_rest n m weights c a willing r k s news) s (comes_to n m weights c a willing r k s news 0 0 (wrote 0 (record_of r) ∷ []) 0)
  unfolding opening_of at_rest opening_move
  opening-step votes k s news place =
      takes_as (opened-to n m weights c a willing votes k s news agreed place)
      (start-row n weights c a willing (table (rest_at n m (from votes)) 16) k news s (opening_sent n votes)
      (rest_up n m weights c a willing votes k s news agreed place)
      (rest_active k s news place)
      (agreed.will 0 (omega arith)) (opens n m weights c a willing votes k s news agreed place) (sends n votes)
      (omega (arith, place.rows, agreed.size)) (opens_quietly n votes news place.low))
  opening-step joins k s news place =
      takes_as (opened-to n m weights c a willing joins k s news agreed place)
      (timeout-row n weights c a willing (table (rest_at n m (from joins)) 16) k news s (opening_sent n joins) (omega arith)
      (rest_up n m weights c a willing joins k s news agreed place) (opens n m weights c a willing joins k s news agreed place) (sends n joins)
      (omega (arith, place.rows, agreed.size)) (opens_quietly n joins news place.low))
  opening-step outcomes k s news place =
      takes_as (opened-to n m weights c a willing outcomes k s news agreed place)
      (timeout-row n weights c a willing (table (rest_at n m (from outcomes)) 16) k news s (opening_sent n outcomes) (omega arith)
      (rest_up n m weights c a willing outcomes k s news agreed place) (opens n m weights c a willing outcomes k s news agreed place) (sends n outcomes)
      (omega (arith, place.rows, agreed.size)) (opens_quietly n outcomes news place.low))
