-- Theorem 4: an accepted command leaves a world that passes 17.
use Rattle.std.specs.Prelude.{ℕ, ◌+◌, ◌≤◌, ◌<◌, true, List, ◌≡◌}
use Rattle.std.proofs.Common.{arith}
use Rattle.rules.specs.Rules.{Move}
use Rattle.world.specs.declared.World.{World}
use Rattle.world.specs.Worlds.{site_of, with_site, with_rows, with_news}
use Rattle.world.specs.Valid.{valid_site, valid_world}
use Rattle.play.specs.Calls.{Call, refuse, put_back, enter_silent, enter_row}
use Rattle.play.specs.Commands.{one_command}
use Rattle.safety.specs.Claims.{Shaped, ValidStaysValid}
use Rattle.safety.proofs.laws.View.{Granted, Seen, as_refused, as_silent, as_row}
use Rattle.safety.proofs.laws.ViewLaws.{view}
use Rattle.world.specs.laws.WorldLaws.{ValidParts, valid_parts, valid-whole, valid-sized, put_ind}
use Rattle.safety.proofs.laws.Turns.{turn_keeps}
use Rattle.safety.proofs.laws.Shape.{long_of}
use Rattle.member.specs.laws.SoundSites.{SoundSite, site-sound, site-valid, sound_steady}

-- the site that has moved
moved-valid :
    (w : World) (store : List ℕ) (own : ℕ) (m : Move) → Shaped w → Granted w store own m →
    valid_site own w.n m.step.site ≡ true
moved-valid w store own m shaped g =
    let most : w.n ≤ 16 = (valid-sized w g.valid).high in
    let below : own < w.n = g.below in
    site-valid own w.n m.step.site
    (turn_keeps w store own m (λ s H. SoundSite own w.n s) (sound_steady own w.n below most) g.turn
    (site-sound own w.n (site_of w own) (long_of w shaped own (omega arith)) ((valid_parts w g.valid).sites own below)))

-- the world with that site put back, and its news added
moved_parts :
    (w : World) (store : List ℕ) (own : ℕ) (m : Move) → Shaped w → Granted w store own m → ValidParts (put_back own m w)
unfolding put_back with_site with_news site_of
moved_parts w store own m shaped g =
    let old : ValidParts w = valid_parts w g.valid in
    record {
      sizes = old.sizes;
      rows = old.rows;
      news = g.news;
      sites = λ k h.
          put_ind (λ s. valid_site k w.n s ≡ true) w own m.step.site k (omega (arith, valid-sized w g.valid))
          (λ e. rw e (moved-valid w store own m shaped g)) (λ _. old.sites k h);
    }

seen-valid :
    (w : World) (store : List ℕ) (c : Call) → Shaped w → Seen w store c → c.number ≡ 0 → valid_world c.world ≡ true
unfolding refuse enter_silent enter_row with_rows site_of put_back with_news
seen-valid w store c shaped (as_refused number place h) e = absurd (h e)
seen-valid w store c shaped (as_silent next own m g z) e =
    valid-whole (put_back own m w) (moved_parts w store own m shaped g)
seen-valid w store c shaped (as_row next own m g z l) e =
    let p : ValidParts (put_back own m w) = moved_parts w store own m shaped g in
    valid-whole (with_rows (w.rows + 1) (put_back own m w))
    (record { sizes = p.sizes; rows = omega arith; news = p.news; sites = p.sites })

pub valid-stays-valid : ValidStaysValid
valid-stays-valid w store list at shaped valid e =
    seen-valid w store (one_command w store list at) shaped (view w store list at) e
