-- What each of the small steps keeps, every turn of a world keeps.
use Rattle.std.specs.Prelude.{ℕ, List, []}
use Rattle.row.specs.Rows.{get_row}
use Rattle.site.specs.declared.Site.{Site}
use Rattle.site.specs.State.{state_of}
use Rattle.site.specs.Records.{Written}
use Rattle.rules.specs.Rules.{Move}
use Rattle.world.specs.declared.World.{World}
use Rattle.world.specs.Worlds.{site_of, is_willing}
use Rattle.member.specs.laws.Steady.{Steady, Moved, is_active_lem, keeps_start, keeps_timeout, keeps_deliver, keeps_crash, keeps_recover}
use Rattle.safety.proofs.laws.View.{Turn, by-start, by-timeout, by-deliver, by-crash, by-recover}

-- the rule, whichever it is
pub turn_keeps :
    (w : World) (store : List ℕ) (own : ℕ) (m : Move) (Q : Site → List Written → Type 0) → Steady own w.n Q →
    Turn w store own m → Q (site_of w own) [] → Q m.step.site m.records
unfolding Moved
turn_keeps w store own m Q steady (by-start up active) q =
    keeps_start w.n Q steady (is_willing w 0) (site_of w 0) (is_active_lem (state_of (site_of w 0)) active) q
turn_keeps w store own m Q steady (by-timeout i up) q = keeps_timeout i w.n Q steady w.weights w.commit w.abort (site_of w i) q
turn_keeps w store own m Q steady (by-deliver i k up there known goes) q =
    keeps_deliver i w.n Q steady (is_willing w i) (get_row store k) (site_of w i) known q
turn_keeps w store own m Q steady (by-crash i up) q = keeps_crash i w.n Q steady (site_of w i) q
turn_keeps w store own m Q steady (by-recover i down) q = keeps_recover i w.n Q steady (site_of w i) q
