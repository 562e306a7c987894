-- One command on a world that lies in bytes: what the change of one site amounts to.
use Rattle.std.specs.Prelude.{ℕ, ◌≤◌, ◌<◌, true, false, List, ◌≡◌, length, get_or}
use Rattle.std.proofs.Math.Path.{ap, sym}
use Rattle.std.proofs.Common.{◌∙◌, le-ltb}
use Rattle.site.specs.declared.Site.{Site}
use Rattle.command.specs.Readings.{Reading}
use Rattle.command.specs.Commands.{read_command}
use Rattle.world.specs.Sizes.{store_bytes}
use Rattle.world.specs.Worlds.{with_site, with_rows, with_news}
use Rattle.world.specs.Valid.{valid_world}
use Rattle.play.specs.declared.Head.{Head}
use Rattle.play.specs.Calls.{refuse, played_of}
use Rattle.play.specs.Commands.{perform_read, play_command, one_command}
use Rattle.play.specs.laws.Changes.{Ready, Acts, SiteChange, head_of, world_of, changed, actor}
use Rattle.play.proofs.laws.CallLaws.{ready, one-is_play, acts_played}
use Rattle.layout.specs.Numbers.{put_number}
use Rattle.layout.specs.Layout.{site_place, site_at, put_world, world_at, in_layout}
use Rattle.layout.proofs.laws.LayoutLaws.{site_of_lem}
use Rattle.calls.specs.Calls.{result_bytes, leave, leave_command, command_call}
use Rattle.calls.specs.laws.CallLaws.{command-plays, command-refused, command-accepted}

-- what 16 and 17 have asked of the buffers; a byte is below 256
pub record Playable (world store result : List ℕ) : Type 0 where
  pub room : store_bytes ≤ length store
  pub eight : length result ≡ result_bytes
  pub inside : in_layout world ≡ true
  pub bytes : (i : ℕ) → get_or world i 0 < 256
  pub valid : valid_world (world_at world) ≡ true

-- a world that fails 17
pub command_17_valid :
    (world store list : List ℕ) (at : ℕ) (result : List ℕ) → store_bytes ≤ length store → length result ≡ result_bytes →
    in_layout world ≡ true → valid_world (world_at world) ≡ false →
    command_call world store list at result ≡ leave 17 store world result
unfolding leave_command one_command refuse
command_17_valid world store list at result room eight inside wrong =
    command-plays world store list at result room eight inside
    ∙ rw (le-ltb (length store) store_bytes room, wrong)

-- no further check is needed
pub playable_ready :
    (world store result : List ℕ) (h : Head) → Playable world store result → h ≡ head_of (world_at world) → Ready h store
playable_ready world store result h p e = rw e (ready (world_at world) store p.room p.valid)

-- the change c at site `own`, with the store left, is the call
record Acted (world store list : List ℕ) (at own : ℕ) (c : SiteChange) (after : List ℕ) : Type 0 where
  number : c.number ≡ (one_command (world_at world) store list at).number
  world-left : with_news c.news (with_rows c.rows (with_site own c.site (world_at world))) ≡ (one_command (world_at world) store list at).world
  place : c.place ≡ (one_command (world_at world) store list at).place
  store-left : after ≡ (one_command (world_at world) store list at).store

module _
    (world store list : List ℕ) (at : ℕ) (result : List ℕ) (reading : Reading) (h : Head) (own : ℕ) (s : Site) (c : SiteChange)
    (after : List ℕ) (p : Playable world store result) (e : reading ≡ read_command list at) (f : h ≡ head_of (world_at world))
    (g : own ≡ actor reading h.sizes.n) (low : own < 16) (i : s ≡ site_at world (site_place own))
    (acts : Acts h (actor reading h.sizes.n) s c after (λ w. perform_read reading w store at)) where
  played :
      (changed (world_at world) own c ≡ played_of (play_command (world_at world) store list at))
      × (after ≡ (play_command (world_at world) store list at).store)
  unfolding head_of world_of
  played =
      acts_played (world_at world).sites (head_of (world_at world)) store list at reading own s c after e (rw f at g)
      (i ∙ sym (site_of_lem own world low)) (rw f at acts)

  acted : Acted world store list at own c after
  unfolding changed played_of
  acted =
      let v : play_command (world_at world) store list at ≡ one_command (world_at world) store list at =
      sym (one-is_play (world_at world) store list at p.room p.valid) in
      record {
        number = ap (λ x. x.number) played.0 ∙ ap (λ x. x.number) v;
        world-left = ap (λ x. x.world) played.0 ∙ ap (λ x. x.world) v;
        place = ap (λ x. x.place) played.0 ∙ ap (λ x. x.place) v;
        store-left = played.1 ∙ ap (λ x. x.store) v;
      }

  -- a refused command
  pub change_refused : (c.number ≡ 0 → ⊥) → command_call world store list at result ≡ leave c.number after world result
  change_refused refused =
      command-refused world store list at result p.room p.eight p.inside (λ z. refused (acted.number ∙ z))
      ∙ rw (acted.number, acted.store-left)

  -- an accepted one
  pub change_accepted :
      c.number ≡ 0 →
      command_call world store list at result
      ≡ leave 0 after (put_world world (with_news c.news (with_rows c.rows (with_site own c.site (world_at world))))) (put_number 8 result 0 c.place)
  change_accepted accepted =
      command-accepted world store list at result p.room p.eight p.inside (sym acted.number ∙ accepted)
      ∙ rw (acted.store-left, acted.world-left, acted.place)
