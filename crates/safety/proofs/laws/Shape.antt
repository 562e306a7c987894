-- The shape of worlds: sixteen sites with two vectors of sixteen codes, from the maker on.
use Rattle.std.specs.Prelude.{ℕ, ◌<◌, true, false, List, ◌≡◌, eqb, length}
use Rattle.std.proofs.Common.{arith, length-set, eqb-true}
use Rattle.choice.specs.laws.ChoiceLaws.{pick_ind}
use Rattle.site.specs.declared.Site.{Site}
use Rattle.site.specs.declared.CommitQuorum.{CommitQuorum}
use Rattle.site.specs.declared.AbortQuorum.{AbortQuorum}
use Rattle.rules.specs.Rules.{Move}
use Rattle.world.specs.declared.World.{World}
use Rattle.world.specs.Sizes.{sizes_number}
use Rattle.world.specs.Worlds.{zero_world, fresh_sites, fresh_world, site_of, with_site, with_rows, with_news}
use Rattle.play.specs.Calls.{Call, refuse, put_back, enter_silent, enter_row}
use Rattle.play.specs.Commands.{one_command}
use Rattle.safety.specs.Claims.{Shaped}
use Rattle.safety.proofs.laws.Fresh.{new_world, fresh-length, fresh-blank}
use Rattle.safety.proofs.laws.View.{Granted, Seen, as_refused, as_silent, as_row}
use Rattle.safety.proofs.laws.ViewLaws.{view}
use Rattle.world.specs.laws.SizesLaws.{sized}
use Rattle.world.specs.laws.WorldLaws.{valid-sized, put_ind}
use Rattle.member.specs.Claims.{Long}
use Rattle.member.specs.laws.Long.{long-blank, long_steady}
use Rattle.safety.proofs.laws.Turns.{turn_keeps}

pub long_of : (w : World) → Shaped w → (j : ℕ) → j < 16 → Long (site_of w j)
long_of w shaped j h = record { codes = shaped.codes j h; joined = shaped.joined j h }

shaped-by : (w : World) → length w.sites ≡ 16 → ((j : ℕ) → j < 16 → Long (site_of w j)) → Shaped w
shaped-by w l h = record { sites = l; codes = λ j k. (h j k).codes; joined = λ j k. (h j k).joined }

-- the maker

pub shaped_fresh : (n : ℕ) (weights : List ℕ) (c : CommitQuorum) (a : AbortQuorum) (willing : ℕ) → Shaped (fresh_world n weights c a willing)
unfolding fresh_world new_world zero_world site_of fresh_sites
shaped_fresh n weights c a willing =
    pick_ind Shaped (eqb (sizes_number n weights c a willing) 0) (new_world n weights c a willing) zero_world
    (λ e. shaped-by (new_world n weights c a willing) (fresh-length n)
    (λ j. fresh-blank Long (long-blank true) (long-blank false) n j
    (sized n weights c a willing (eqb-true (sizes_number n weights c a willing) 0 e)).high))
    (λ _. shaped-by zero_world (fresh-length 0) (λ j. fresh-blank Long (long-blank true) (long-blank false) 0 j (omega arith)))

shaped-put : (w : World) (own : ℕ) (s : Site) → Shaped w → own < 16 → Long s → Shaped (with_site own s w)
unfolding with_site
shaped-put w own s shaped h long =
    shaped-by (with_site own s w) (simp length-set shaped.sites)
    (λ j l. put_ind Long w own s j (omega arith) (λ _. long) (λ _. long_of w shaped j l))

-- the site that has moved
pub long-moved :
    (w : World) (store : List ℕ) (own : ℕ) (m : Move) → Shaped w → Granted w store own m → Long m.step.site
long-moved w store own m shaped g =
    turn_keeps w store own m (λ s H. Long s) (long_steady own w.n) g.turn
    (long_of w shaped own (omega (arith, valid-sized w g.valid)))

-- the world with that site put back
moved-shaped :
    (w : World) (store : List ℕ) (own : ℕ) (m : Move) → Shaped w → Granted w store own m → Shaped (put_back own m w)
unfolding put_back with_news site_of
moved-shaped w store own m shaped g =
    let put : Shaped (with_site own m.step.site w) =
    shaped-put w own m.step.site shaped (omega (arith, valid-sized w g.valid)) (long-moved w store own m shaped g) in
    record { sites = put.sites; codes = put.codes; joined = put.joined }

seen-shaped : (w : World) (store : List ℕ) (c : Call) → Shaped w → Seen w store c → Shaped c.world
unfolding refuse enter_silent enter_row with_rows site_of
seen-shaped w store c shaped (as_refused number place h) = shaped
seen-shaped w store c shaped (as_silent next own m g z) = moved-shaped w store own m shaped g
seen-shaped w store c shaped (as_row next own m g z l) =
    let put : Shaped (put_back own m w) = moved-shaped w store own m shaped g in
    record { sites = put.sites; codes = put.codes; joined = put.joined }

-- a call, refused or not, leaves the shape
pub shaped-kept : (w : World) (store list : List ℕ) (at : ℕ) → Shaped w → Shaped (one_command w store list at).world
shaped-kept w store list at shaped = seen-shaped w store (one_command w store list at) shaped (view w store list at)
