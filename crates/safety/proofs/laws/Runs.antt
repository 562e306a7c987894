-- Lists of calls: the invariant is kept, the sizes stay, and a world that does not pass 17 is refused for ever.
use Rattle.std.specs.Prelude.{ℕ, false, List, [], ◌∷◌, ◌++◌, ◌≡◌, refl}
use Rattle.std.proofs.Common.{append_assoc, append-nil, ap, ◌∙◌, arith}
use Rattle.site.specs.Records.{Written}
use Rattle.world.specs.declared.World.{World}
use Rattle.world.specs.Worlds.{with_site, with_rows, with_news}
use Rattle.world.specs.Valid.{valid_world}
use Rattle.play.specs.Calls.{Call, refuse, put_back, enter_silent, enter_row}
use Rattle.play.specs.Run.{Ask, run, call_of, after_call}
use Rattle.safety.proofs.laws.View.{Seen, as_refused, as_silent, as_row}
use Rattle.safety.proofs.laws.ViewLaws.{view}
use Rattle.safety.proofs.laws.Invariant.{Invariant, terms_of, call_keeps}

-- a call, seen
pub seen : (w : World) (store : List ℕ) (a : Ask) → Seen w store (call_of w store a)
unfolding call_of
seen w store a = view w store a.list a.place

-- calls keep the invariant
pub run_keeps : (w : World) (store : List ℕ) (asks : List Ask) (H : List Written) → Invariant w store H →
    Invariant (run w store asks).world (run w store asks).store (H ++ (run w store asks).records)
unfolding run after_call
run_keeps w store [] H inv = rw append-nil inv
run_keeps w store (a ∷ asks) H inv =
    rw (← append_assoc H (call_of w store a).records
    (run (call_of w store a).world (call_of w store a).store asks).records)
    (run_keeps (call_of w store a).world (call_of w store a).store asks (H ++ (call_of w store a).records)
    (call_keeps w store H inv (call_of w store a) (seen w store a)))

-- calls keep the sizes
call-terms : (w : World) (store : List ℕ) (r : Call) → Seen w store r → terms_of r.world ≡ terms_of w
unfolding refuse enter_silent enter_row with_site with_rows put_back with_news
call-terms w store r (as_refused number place other) = refl
call-terms w store r (as_silent next own m granted none) = refl
call-terms w store r (as_row next own m granted some room) = refl

pub run-terms : (w : World) (store : List ℕ) (asks : List Ask) → terms_of (run w store asks).world ≡ terms_of w
unfolding run after_call
run-terms w store [] = refl
run-terms w store (a ∷ asks) =
    run-terms (call_of w store a).world (call_of w store a).store asks ∙ call-terms w store (call_of w store a) (seen w store a)

-- a world that does not pass 17 stays as it is, and no call is accepted
pub record Stuck (w : World) (store : List ℕ) (r : Call) : Type 0 where
  pub same-world : r.world ≡ w
  pub no_record : r.records ≡ []
  pub not_accepted : r.number ≡ 0 → ⊥

pub call-stuck : (w : World) (store : List ℕ) (r : Call) → valid_world w ≡ false → Seen w store r → Stuck w store r
unfolding refuse
call-stuck w store r bad (as_refused number place other) = record { same-world = refl; no_record = refl; not_accepted = other }
call-stuck w store r bad (as_silent next own m granted none) =
    let z : ◌≡◌ {A = ℕ} 0 1 = cc granted.valid in absurd (omega arith)
call-stuck w store r bad (as_row next own m granted some room) =
    let z : ◌≡◌ {A = ℕ} 0 1 = cc granted.valid in absurd (omega arith)

pub run-stuck : (w : World) (store : List ℕ) (asks : List Ask) → valid_world w ≡ false →
    ((run w store asks).world ≡ w) × ((run w store asks).records ≡ [])
unfolding run after_call
run-stuck w store [] bad = (refl, refl)
run-stuck w store (a ∷ asks) bad =
    let put : Stuck w store (call_of w store a) = call-stuck w store (call_of w store a) bad (seen w store a) in
    let rest : ((run (call_of w store a).world (call_of w store a).store asks).world ≡ (call_of w store a).world) ×
    ((run (call_of w store a).world (call_of w store a).store asks).records ≡ []) =
    run-stuck (call_of w store a).world (call_of w store a).store asks (ap valid_world put.same-world ∙ bad) in
    (rest.0 ∙ put.same-world, rw put.no_record rest.1)
