-- What accepted commands lead to, as a run of calls and as the play of a list.
use Rattle.std.specs.Prelude.{ℕ, zero, suc, ◌+◌, ◌≤◌, true, List, [], ◌∷◌, ◌≡◌, refl, length, drop}
use Rattle.std.proofs.Common.{append-nil, ap, sym, subst, ◌∙◌, arith, length-append, length-drop, drop-drop}
use Rattle.std.proofs.Math.Seq.{drop-append_seam}
use Rattle.command.specs.declared.Command.{Command}
use Rattle.command.specs.Commands.{read_command, found}
use Rattle.world.specs.declared.World.{World}
use Rattle.world.specs.Sizes.{store_bytes}
use Rattle.world.specs.Valid.{valid_world}
use Rattle.play.specs.Commands.{perform_read, play_command, one_command}
use Rattle.play.specs.Run.{Ask, Ran, run, call_of, after_call}
use Rattle.play.proofs.laws.CallLaws.{one-is_play}
use Rattle.safety.specs.Claims.{Shaped}
use Rattle.list.specs.Play.{stopped, after_ask, ask_at, play_from}
use Rattle.list.specs.laws.PlayLaws.{Further, further-one, ends, goes_on}
use Rattle.spelling.specs.Spelling.{command_bytes}
use Rattle.spelling.specs.Ranges.{AllInRange}
use Rattle.spelling.specs.Script.{spelled_by}
use Rattle.spelling.specs.laws.BytesBack.{command-reads, command-longer}
use Rattle.quiet_run.specs.Claims.{asks_of, AllAccepted}
use Rattle.quiet_run.proofs.laws.Leads.{taken, Takes, still, and_then, Leads, at_rest_lem, by_one}

-- a world and a store that meet neither 16 nor 17
pub record Fit (w : World) (s : List ℕ) : Type 0 where
  pub shaped : Shaped w
  pub valid : valid_world w ≡ true
  pub room : store_bytes ≤ length s

-- a command that is read is the call
takes_one :
    {c : Command} {w : World} {s : List ℕ} {r : Ran} → Takes c w s r → Fit w s → (list : List ℕ) (at next : ℕ) →
    read_command list at ≡ found c next → one_command w s list at ≡ taken r next
unfolding play_command perform_read found
takes_one {c} {w} {s} {r} takes fit list at next e =
    one-is_play w s list at fit.room fit.valid ∙ ap (λ x. perform_read x w s at) e ∙ takes.calls at next

-- and leaves what is fit again
takes-fit :
    {c : Command} {w : World} {s : List ℕ} {r : Ran} → Takes c w s r → Fit w s → (list : List ℕ) (at next : ℕ) →
    read_command list at ≡ found c next → Fit r.world r.store
unfolding taken
takes-fit {c} {w} {s} {r} takes fit list at next e =
    let same : one_command w s list at ≡ taken r next = takes_one takes fit list at next e in
    let f : Further list at (one_command w s list at) =
    further-one w s list at fit.room fit.valid fit.shaped (ap (λ x. x.number) same) in
    subst (λ x. Fit x.world x.store) same (record { shaped = f.shaped; valid = f.valid; room = f.room })

-- what calls are asked reads as commands
pub record ReadsAs (a : Ask) (c : Command) : Type 0 where
  pub next : ℕ
  pub reads : read_command a.list a.place ≡ found c next

unfoldable pub Read : List Ask → List Command → Type 0
Read [] [] = Unit
Read [] (c ∷ cs) = ⊥
Read (a ∷ asks) [] = ⊥
Read (a ∷ asks) (c ∷ cs) = ReadsAs a c × Read asks cs

-- AS A RUN
pub record RunsTo (w : World) (s : List ℕ) (asks : List Ask) (r : Ran) : Type 0 where
  pub same : run w s asks ≡ r
  pub accepted : AllAccepted w s asks

pub leads-run :
    {cs : List Command} {w : World} {s : List ℕ} {r : Ran} → Leads cs w s r → (asks : List Ask) → Read asks cs → Fit w s → RunsTo w s asks r
unfolding Read run still AllAccepted and_then after_call call_of taken
leads-run (at_rest_lem w s) [] read fit = record { same = refl; accepted = tt }
leads-run (at_rest_lem w s) (a ∷ asks) read fit = absurd read
leads-run (by_one c cs w s p t takes rest) [] read fit = absurd read
leads-run (by_one c cs w s p t takes rest) (a ∷ asks) read fit =
    let next : ℕ = read.0.next in
    let same : call_of w s a ≡ taken p next = takes_one takes fit a.list a.place next read.0.reads in
    let later : RunsTo p.world p.store asks t =
    leads-run rest asks read.1 (takes-fit takes fit a.list a.place next read.0.reads) in
    record {
      same = ap (λ x. after_call x (run x.world x.store asks)) same ∙ ap (and_then p) later.same;
      accepted = (ap (λ x. x.number) same, subst (λ x. AllAccepted x.world x.store asks) (sym same) later.accepted);
    }

-- commands as calls of their own
pub own-reads : (cs : List Command) → AllInRange cs → Read (asks_of cs) cs
unfolding Read asks_of
own-reads [] ok = tt
own-reads (c ∷ cs) (AllInRange.more low ok) = (
  record { next = 0 + length (command_bytes c); reads = command-reads (command_bytes c) 0 c [] low (sym (append-nil (command_bytes c))) },
  own-reads cs ok,
)

-- AS A LIST'S PLAY: its calls, from a place on
unfoldable pub asks_from : List ℕ → ℕ → List Command → List Ask
asks_from list at [] = []
asks_from list at (c ∷ cs) = ask_at list at ∷ asks_from list (at + length (command_bytes c)) cs

-- what is left of a list at a place, after its first command
left_after :
    (list : List ℕ) (at : ℕ) (c : Command) (cs : List Command) → drop at list ≡ spelled_by command_bytes (c ∷ cs) →
    drop (at + length (command_bytes c)) list ≡ spelled_by command_bytes cs
unfolding spelled_by
left_after list at c cs e =
    sym (drop-drop (length (command_bytes c)) at list) ∙ ap (drop (length (command_bytes c))) e
    ∙ drop-append_seam (command_bytes c) (spelled_by command_bytes cs)

pub list-reads :
    (list : List ℕ) (at : ℕ) (cs : List Command) → AllInRange cs → drop at list ≡ spelled_by command_bytes cs → Read (asks_from list at cs) cs
unfolding Read asks_from spelled_by ask_at
list-reads list at [] ok e = tt
list-reads list at (c ∷ cs) (AllInRange.more low ok) e = (
  record { next = at + length (command_bytes c); reads = command-reads list at c (spelled_by command_bytes cs) low e },
  list-reads list (at + length (command_bytes c)) cs ok (left_after list at c cs e),
)

-- a list that goes on with a command has its bytes
longer :
    (list : List ℕ) (at : ℕ) (c : Command) (cs : List Command) → drop at list ≡ spelled_by command_bytes (c ∷ cs) →
    length list ≡ at + length (command_bytes c) + length (spelled_by command_bytes cs)
unfolding spelled_by
longer list at c cs e =
    omega (arith, sym (length-drop at list) ∙ ap length e, length-append (command_bytes c) (spelled_by command_bytes cs), command-longer c)

pub leads_play :
    {cs : List Command} {w : World} {s : List ℕ} {r : Ran} → Leads cs w s r → Fit w s → AllInRange cs → (list : List ℕ) (at events fuel : ℕ) →
    drop at list ≡ spelled_by command_bytes cs → at ≤ length list → length list ≤ at + fuel →
    play_from fuel w s list at events ≡ stopped 0 r.world r.store (length list) (events + length cs) (asks_from list at cs)
unfolding spelled_by asks_from still and_then stopped taken after_ask
leads_play (at_rest_lem w s) fit ok list at events fuel e within enough =
    let over : length list ≤ at = omega (arith, sym (length-drop at list) ∙ ap length e) in
    let at-end : at ≡ length list = omega arith in
    ends fuel w s list at events over
    ∙ ap (λ x. stopped 0 w s x events []) at-end ∙ ap (λ x. stopped 0 w s (length list) x []) (omega arith)
leads_play (by_one c cs w s p t takes rest) fit ok list at events zero e within enough =
    absurd (omega (arith, longer list at c cs e, command-longer c))
leads_play (by_one c cs w s p t takes rest) fit (AllInRange.more low ok) list at events (suc fuel) e within enough =
    let next : ℕ = at + length (command_bytes c) in
    let reads : read_command list at ≡ found c next = command-reads list at c (spelled_by command_bytes cs) low e in
    let same : one_command w s list at ≡ taken p next = takes_one takes fit list at next reads in
    goes_on fuel w s list at events (omega (arith, longer list at c cs e, command-longer c)) (ap (λ x. x.number) same)
    ∙ ap (λ x. after_ask (ask_at list at) (play_from fuel x.world x.store list x.place (events + 1))) same
    ∙ ap (after_ask (ask_at list at))
    (leads_play rest (takes-fit takes fit list at next reads) ok list next (events + 1) fuel (left_after list at c cs e)
    (omega (arith, longer list at c cs e)) (omega (arith, command-longer c)))
    ∙ ap (λ x. stopped 0 t.world t.store (length list) x (asks_from list at (c ∷ cs))) (omega (arith, longer list at c cs e))
