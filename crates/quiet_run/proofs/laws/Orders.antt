-- A round of a quiet day in both orders: all deliveries before all replies, and each reply at once. Both lead to the same.
use Prim.Native.Nat.{ℕ, zero, suc, ◌+◌, ◌≤◌}
use mathlib.Core.List.{List, [], ◌∷◌, append-nil}
use Rattle.std.specs.Prelude.{◌≡◌}
use Rattle.std.proofs.Math.Path.{refl}
use Rattle.std.proofs.Common.{subst, add-zero, arith}
use Rattle.choice.specs.Places.{sum_to}
use Rattle.site.specs.declared.CommitQuorum.{CommitQuorum}
use Rattle.site.specs.declared.AbortQuorum.{AbortQuorum}
use Rattle.site.specs.Records.{wrote}
use Rattle.command.specs.declared.Command.{Command}
use Rattle.world.specs.declared.World.{World}
use Rattle.play.specs.Run.{Ran}
use Rattle.quiet.specs.Quiet.{row_to, to_each, from_each, replies_after, replies_at_once}
use Rattle.quiet_run.proofs.laws.Stages.{Round, record_of}
use Rattle.quiet_run.proofs.laws.Moves.{told_of}
use Rattle.quiet_run.proofs.laws.Sent.{sent_to}
use Rattle.quiet_run.proofs.laws.Leads.{Takes, still, and_then, Leads, at_rest_lem, by_one, ran_same, leads-on}
use Rattle.quiet_run.proofs.laws.Histories.{each_wrote}
use Rattle.quiet_run.proofs.laws.Steps.{opening_of, Agreed, Room, in_round, comes_to, at_rest, command-step, reply-step, opening-step}

-- one command
leads_one : {c : Command} {w : World} {s : List ℕ} {r : Ran} → Takes c w s r → Leads (c ∷ []) w s r
unfolding and_then still
leads_one {c} {w} {s} {r} takes =
    subst (Leads (c ∷ []) w s)
    (ran_same (and_then r (still r.world r.store)) r refl refl (append-nil r.records) (add-zero r.news))
    (by_one c [] w s r (still r.world r.store) takes (at_rest_lem r.world r.store))

leads_as : {cs : List Command} {w : World} {s : List ℕ} {r t : Ran} → r ≡ t → Leads cs w s r → Leads cs w s t
leads_as {cs} {w} {s} e k = subst (Leads cs w s) e k

module _ (n m : ℕ) (weights : List ℕ) (c : CommitQuorum) (a : AbortQuorum) (willing : ℕ) (agreed : Agreed n m weights c willing) (r : Round) (k : ℕ) (s : List ℕ)
    (news : ℕ) (place : Room n k s news) where
  -- the world and what calls leave, in this round
  abbrev now : ℕ → ℕ → World
  now p q = in_round n m weights c a willing r k s news p q

  abbrev left : ℕ → ℕ → ℕ → Ran
  left p q told = comes_to n m weights c a willing r k s news p q (each_wrote (record_of r) (suc p)) told

  abbrev told : ℕ → ℕ
  told p = sum_to (λ _. told_of r m) p

  -- the command, and its deliveries to p sites
  deliveries_lead : (p : ℕ) → p ≤ m → Leads (opening_of r ∷ to_each k p) (at_rest n m weights c a willing r k s news) s (left p 0 (told p))
  unfolding to_each each_wrote comes_to and_then sum_to
  deliveries_lead zero h = leads_one (opening-step n m weights c a willing agreed r k s news place)
  deliveries_lead (suc p) h =
      leads-on (row_to k (suc p) ∷ []) (comes_to n m weights c a willing r k s news (suc p) 0 (wrote (suc p) (record_of r) ∷ []) (told_of r m))
      (deliveries_lead p (omega arith)) (leads_one (command-step n m weights c a willing r k s news agreed place p 0 h (omega arith)))

  -- the replies of q sites
  replies_lead : (q : ℕ) → q ≤ m → Leads (from_each k q) (now m 0) (sent_to n r k s m) (comes_to n m weights c a willing r k s news m q [] q)
  unfolding from_each comes_to and_then still
  replies_lead zero h = at_rest_lem (now m 0) (sent_to n r k s m)
  replies_lead (suc q) h =
      leads_as (ran_same _ (comes_to n m weights c a willing r k s news m (suc q) [] (suc q)) refl refl refl (omega arith))
      (leads-on (row_to (k + suc q) 0 ∷ []) (comes_to n m weights c a willing r k s news m (suc q) [] 1)
      (replies_lead q (omega arith)) (leads_one (reply-step n m weights c a willing r k s news agreed place m q h (omega arith))))

  -- THE ROUND, with the replies after all deliveries
  pub after-leads : Leads (opening_of r ∷ replies_after k m) (at_rest n m weights c a willing r k s news) s (left m m (told m + m))
  unfolding replies_after comes_to and_then
  after-leads =
      leads_as (ran_same _ (left m m (told m + m)) refl refl (append-nil (each_wrote (record_of r) (suc m))) refl)
      (leads-on (from_each k m) (comes_to n m weights c a willing r k s news m m [] m) (deliveries_lead m (omega arith)) (replies_lead m (omega arith)))

  -- and with each reply at once
  at_once : (p : ℕ) → p ≤ m → Leads (opening_of r ∷ replies_at_once k p) (at_rest n m weights c a willing r k s news) s (left p p (told p + p))
  unfolding replies_at_once each_wrote comes_to and_then sum_to
  at_once zero h = leads_one (opening-step n m weights c a willing agreed r k s news place)
  at_once (suc p) h =
      leads_as (ran_same _ (left (suc p) (suc p) (told (suc p) + suc p)) refl refl refl (omega arith))
      (leads-on (row_to k (suc p) ∷ row_to (k + suc p) 0 ∷ [])
      (comes_to n m weights c a willing r k s news (suc p) (suc p) (wrote (suc p) (record_of r) ∷ []) (told_of r m + 1)) (at_once p (omega arith))
      (leads-on (row_to (k + suc p) 0 ∷ []) (comes_to n m weights c a willing r k s news (suc p) (suc p) [] 1)
      (leads_one (command-step n m weights c a willing r k s news agreed place p p h (omega arith)))
      (leads_one (reply-step n m weights c a willing r k s news agreed place (suc p) p (omega arith) h))))

  pub at_once-leads : Leads (opening_of r ∷ replies_at_once k m) (at_rest n m weights c a willing r k s news) s (left m m (told m + m))
  at_once-leads = at_once m (omega arith)
