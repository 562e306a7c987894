-- Every run of calls is a history of a network: each accepted call is a step, and a refused one is none.
use Rattle.std.specs.Prelude.{ℕ, ◌≤◌, List, [], ◌∷◌, ◌++◌, ◌≡◌, refl, length, get_or}
use Rattle.std.proofs.Math.Path.{ap}
use Rattle.std.proofs.Common.{◌∙◌}
use Rattle.row.specs.Rows.{no_row}
use Rattle.site.specs.Records.{Written}
use Rattle.world.specs.declared.World.{World}
use Rattle.world.specs.Worlds.{with_site, with_rows, with_news}
use Rattle.world.specs.laws.SizesLaws.{sized}
use Rattle.play.specs.Calls.{Call, refuse, put_back, enter_silent, enter_row}
use Rattle.play.specs.Run.{Ask, Ran, run, call_of, after_call}
use Rattle.history.specs.Network.{Competition, Network, Told, fresh_network, after_step, IsHistory, after_answer, pass}
use Rattle.history.proofs.laws.Alike.{Alike, alike_then, alike-answer, alike-genuine, alike-step}
use Rattle.safety.specs.Claims.{HistoryOf, RunsAreHistories}
use Rattle.safety.proofs.laws.View.{Seen, as_refused, as_silent, as_row}
use Rattle.safety.proofs.laws.AsNetwork.{competition_of, network_of, rows-length, rows_at, CallStep, silent-step, row_step}
use Rattle.safety.proofs.laws.Invariant.{Invariant, long_after, call_keeps}
use Rattle.safety.proofs.laws.Runs.{seen}
use Rattle.safety.proofs.laws.Fresh.{new_world, fresh-new, fresh-alike, new_invariant}

-- the steps of a run, from a network
record Steps (z : Competition) (net : Network) (r : Ran) : Type 0 where
  taken : List Told
  genuine : IsHistory z net taken
  records : (pass z net taken).records ≡ r.records
  alike : Alike z.n (pass z net taken).network (network_of r.world r.store)

-- a call before them
module _ (w : World) (store : List ℕ) (H : List Written) (inv : Invariant w store H) (net : Network) (same : Alike w.n net (network_of w store)) where
  step-before : (c : Call) (r : Ran) (s : CallStep w store c) → Steps (competition_of w) (after_step (competition_of w) net s.told) r →
      Steps (competition_of w) net (after_call c r)
  unfolding after_call pass after_answer IsHistory
  step-before c r s rest =
      let z : Competition = competition_of w in
      record {
        taken = s.told ∷ rest.taken;
        genuine = (alike-genuine z net (network_of w store) same s.told s.below s.genuine, rest.genuine);
        records =
            ap (λ K. K ++ (pass z (after_step z net s.told) rest.taken).records)
            (ap (λ y. y.records) (alike-answer z net (network_of w store) same s.told s.below) ∙ s.records)
            ∙ ap (λ K. c.records ++ K) rest.records;
        alike = rest.alike;
      }

  call-before :
      (c : Call) (asks : List Ask) → Seen w store c →
      ((other : Network) → Alike c.world.n other (network_of c.world c.store) → Steps (competition_of c.world) other (run c.world c.store asks)) →
      Steps (competition_of w) net (after_call c (run c.world c.store asks))
  unfolding refuse enter_silent enter_row put_back with_site with_rows with_news after_call
  call-before c asks (as_refused number place other) rest =
      let r : Steps (competition_of w) net (run w store asks) = rest net same in
      record { taken = r.taken; genuine = r.genuine; records = r.records; alike = r.alike }
  call-before c asks (as_silent next own m g none) rest =
      let s : CallStep w store (enter_silent w store next own m) = silent-step w store inv.sixteen own m g next none in
      step-before (enter_silent w store next own m) _ s
      (rest _ (alike_then (alike-step (competition_of w) net (network_of w store) same s.told s.below) s.alike))
  call-before c asks (as_row next own m g some room) rest =
      let s : CallStep w store (enter_row w store next own m) =
      row_step w store inv.sixteen own m g next some room (long_after w store H inv own m g) in
      step-before (enter_row w store next own m) _ s
      (rest _ (alike_then (alike-step (competition_of w) net (network_of w store) same s.told s.below) s.alike))

run-steps :
    (w : World) (store : List ℕ) (asks : List Ask) (H : List Written) → Invariant w store H → (net : Network) →
    Alike w.n net (network_of w store) → Steps (competition_of w) net (run w store asks)
unfolding run pass IsHistory
run-steps w store [] H inv net same = record { taken = []; genuine = tt; records = refl; alike = same }
run-steps w store (a ∷ asks) H inv net same =
    let c : Call = call_of w store a in
    call-before w store H inv net same c asks (seen w store a)
    (run-steps c.world c.store asks (H ++ c.records) (call_keeps w store H inv c (seen w store a)))

-- the claim, of a run whose steps are known
history_of : (z : Competition) (r : Ran) → Steps z fresh_network r → HistoryOf z r
history_of z r s =
    record {
      steps = s.taken;
      genuine = s.genuine;
      same-records = s.records;
      same-sites = s.alike.sites;
      same_count = ap length s.alike.sent ∙ rows-length r.world.rows r.store;
      same_rows = λ k h. ap (λ l. get_or l k no_row) s.alike.sent ∙ rows_at r.world.rows k r.store h;
    }

pub runs_are_histories : RunsAreHistories
unfolding new_world
runs_are_histories n weights c a willing store asks e =
    let few : n ≤ 16 = (sized n weights c a willing e).high in
    let w : World = new_world n weights c a willing in
    rw (fresh-new n weights c a willing e)
    (history_of _ (run w store asks)
    (run-steps w store asks [] (new_invariant n weights c a willing store few) fresh_network (fresh-alike n weights c a willing store few)))
