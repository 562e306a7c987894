-- Commands that are accepted one after the other, and what they lead to, wherever they stand: as calls of their own, or in a list.
use Rattle.std.specs.Prelude.{ℕ, ◌+◌, List, [], ◌∷◌, ◌++◌, ◌≡◌, refl}
use Rattle.std.proofs.Common.{append_assoc, sym, subst, zero-add, add_assoc}
use Rattle.command.specs.declared.Command.{Command}
use Rattle.world.specs.declared.World.{World}
use Rattle.play.specs.Calls.{Call}
use Rattle.play.specs.Commands.{perform}
use Rattle.play.specs.Run.{Ran}

-- an accepted call that leaves so much, and a next place
unfoldable pub taken : Ran → ℕ → Call
taken r next =
    record { number = 0; world = r.world; store = r.store; place = next; records = r.records; news = r.news }

-- a command is accepted, wherever it stands
pub record Takes (c : Command) (w : World) (s : List ℕ) (r : Ran) : Type 0 where
  pub calls : (at next : ℕ) → perform c w s at next ≡ taken r next

-- nothing done; and one thing after the other
unfoldable pub still : World → List ℕ → Ran
still w s = record { world = w; store = s; records = []; news = 0 }

unfoldable pub and_then : Ran → Ran → Ran
and_then r t = record { world = t.world; store = t.store; records = r.records ++ t.records; news = r.news + t.news }

-- what commands lead to, all accepted
pub data Leads : List Command → World → List ℕ → Ran → Type 0 where
  at_rest_lem : (w : World) (s : List ℕ) → Leads [] w s (still w s)
  by_one :
      (c : Command) (cs : List Command) (w : World) (s : List ℕ) (r t : Ran) → Takes c w s r →
      Leads cs r.world r.store t → Leads (c ∷ cs) w s (and_then r t)

pub ran_same :
    (r t : Ran) → r.world ≡ t.world → r.store ≡ t.store → r.records ≡ t.records → r.news ≡ t.news → r ≡ t
ran_same r t p q h k = λ i. record { world = p i; store = q i; records = h i; news = k i }

still-then : (w : World) (s : List ℕ) (t : Ran) → t ≡ and_then (still w s) t
unfolding and_then still
still-then w s t = ran_same t (and_then (still w s) t) refl refl refl (sym (zero-add t.news))

then-then : (r t u : Ran) → and_then r (and_then t u) ≡ and_then (and_then r t) u
unfolding and_then
then-then r t u =
    ran_same (and_then r (and_then t u)) (and_then (and_then r t) u) refl refl
    (sym (append_assoc r.records t.records u.records)) (sym (add_assoc r.news t.news u.news))

-- one list of commands after another
pub leads-on :
    {xs : List Command} (ys : List Command) {w : World} {s : List ℕ} {r : Ran} (t : Ran) → Leads xs w s r → Leads ys r.world r.store t →
    Leads (xs ++ ys) w s (and_then r t)
unfolding still and_then
leads-on ys t (at_rest_lem w s) k = subst (Leads ys w s) (still-then w s t) k
leads-on ys t (by_one c xs w s p q takes rest) k =
    subst (Leads (c ∷ (xs ++ ys)) w s) (then-then p q t)
    (by_one c (xs ++ ys) w s p (and_then q t) takes (leads-on ys t rest k))
