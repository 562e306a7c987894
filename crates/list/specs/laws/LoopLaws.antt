-- The loop's laws, said of the change that one turn of the code makes.
use Rattle.std.specs.Prelude.{ℕ, ◌+◌, ◌<◌, List, ◌≡◌, length}
use Rattle.std.proofs.Math.Path.{ap}
use Rattle.std.proofs.Common.{sym, ◌∙◌}
use Rattle.site.specs.declared.Site.{Site}
use Rattle.command.specs.Readings.{Reading}
use Rattle.command.specs.Commands.{read_command}
use Rattle.world.specs.declared.World.{World}
use Rattle.world.specs.Worlds.{site_of}
use Rattle.play.specs.Calls.{Told, played_of}
use Rattle.play.specs.Commands.{perform_read, play_command}
use Rattle.play.specs.laws.Changes.{Ready, Acts, SiteChange, actor, changed, head_of, world_of}
use Rattle.play.proofs.laws.CallLaws.{ready, acts_played}
use Rattle.list.specs.Play.{Play}
use Rattle.list.specs.laws.CommandLaws.{place_after}
use Rattle.list.specs.laws.Loop.{Underway, Over, loop_goes_on, loop_stops}

module _ (p : Play) (w : World) (store list : List ℕ) (at events : ℕ) (r : Told) (after : List ℕ)
    (u : Underway p w store list at events) (left : at < length list) (e : r ≡ played_of (play_command w store list at))
    (s : after ≡ (play_command w store list at).store) where
  number_is : r.number ≡ (play_command w store list at).number
  unfolding played_of
  number_is = ap (λ q. q.number) e

  steps_on : r.number ≡ 0 → Underway p r.world after list r.place (events + 1)
  unfolding played_of
  steps_on z = rw (e, s) (loop_goes_on p w store list at events u left (sym number_is ∙ z))

  steps-past : r.number ≡ 0 → at < r.place
  unfolding played_of
  steps-past z = rw e (place_after w store list at (sym number_is ∙ z)).0

  steps_out : (r.number ≡ 0 → ⊥) → Over p r.number w after at events
  unfolding played_of
  steps_out n = rw (e, s) (loop_stops p w store list at events u left (λ z. n (number_is ∙ z)))

-- a turn's call may be made
pub may_act :
    {p : Play} (w : World) {store list : List ℕ} {at events : ℕ} → Underway p w store list at events → Ready (head_of w) store
may_act w {store} u = ready w store u.room u.valid

module _ {p : Play} (w : World) {store list : List ℕ} {at events : ℕ} {reading : Reading} {own : ℕ} {s : Site} (c : SiteChange)
    (after : List ℕ) (u : Underway p w store list at events) (left : at < length list) (e : reading ≡ read_command list at)
    (f : own ≡ actor reading w.n) (g : s ≡ site_of w own)
    (acts : Acts (head_of w) (actor reading w.n) s c after (λ x. perform_read reading x store at)) where
  call-is :
      (changed w own c ≡ played_of (play_command w store list at)) × (after ≡ (play_command w store list at).store)
  unfolding head_of world_of
  call-is = acts_played w.sites (head_of w) store list at reading own s c after e f g acts

  -- accepted: the next turn begins with the site put back, the row count and the news changed
  pub changes_on : c.number ≡ 0 → Underway p (changed w own c).world after list c.place (events + 1)
  unfolding changed
  changes_on = steps_on p w store list at events (changed w own c) after u left call-is.0 call-is.1

  pub changes_past : c.number ≡ 0 → at < c.place
  unfolding changed
  changes_past = steps-past p w store list at events (changed w own c) after u left call-is.0 call-is.1

  -- refused: the play is over, with the world before the command
  pub changes_out : (c.number ≡ 0 → ⊥) → Over p c.number w after at events
  unfolding changed
  changes_out = steps_out p w store list at events (changed w own c) after u left call-is.0 call-is.1
