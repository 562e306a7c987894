-- Theorem 3: a refused call changes nothing, an accepted one only its site, its row, its news and its records.
use Rattle.std.specs.Prelude.{ℕ, false, List, [], ◌∷◌, ◌++◌, ◌≡◌, refl}
use Rattle.std.proofs.Common.{arith, get_or-set_other, ne_eqb}
use Rattle.row.specs.laws.RowLaws.{put_row-length, put_row-below, put_row-beyond, get_row_else}
use Rattle.site.specs.declared.Site.{Site}
use Rattle.site.specs.Fields.{blank_site}
use Rattle.site.specs.Records.{Written, wrote, LogRecord}
use Rattle.rules.specs.Rules.{Move}
use Rattle.world.specs.declared.World.{World}
use Rattle.world.specs.Worlds.{site_of, with_site, with_rows, with_news}
use Rattle.play.specs.Calls.{Call, refuse, put_back, enter_silent, enter_row}
use Rattle.play.specs.Commands.{one_command}
use Rattle.history.specs.Safe.{written_at}
use Rattle.safety.specs.Claims.{Unchanged, RefusedChangesNothing, Kept, AcceptedKeepsTheRest}
use Rattle.safety.proofs.laws.View.{Turn, Seen, as_refused, as_silent, as_row}
use Rattle.safety.proofs.laws.ViewLaws.{view}
use Rattle.member.specs.laws.Steady.{Steady}
use Rattle.safety.proofs.laws.Turns.{turn_keeps}

seen-refused : (w : World) (store : List ℕ) (c : Call) → Seen w store c → (c.number ≡ 0 → ⊥) → Unchanged w store c
unfolding refuse enter_silent enter_row put_back with_news
seen-refused w store c (as_refused number place h) r = record { world_same = refl; store_same = refl; no_record = refl; no_news = refl }
seen-refused w store c (as_silent next own m g e) r = absurd (r refl)
seen-refused w store c (as_row next own m g e l) r = absurd (r refl)

pub refused_changes_nothing : RefusedChangesNothing
refused_changes_nothing w store list at h = seen-refused w store (one_command w store list at) (view w store list at) h

-- every record of the history is of site `own`
OnlyAt : ℕ → List Written → Type 0
OnlyAt own H = (j code : ℕ) → (j ≡ own → ⊥) → written_at j code H ≡ 0

only_more : (own : ℕ) (H : List Written) (what : LogRecord) → OnlyAt own H → OnlyAt own (H ++ (wrote own what ∷ []))
unfolding OnlyAt written_at
only_more own [] what h j code other = rw (ne_eqb own j (λ e. other (omega arith)))
only_more own (r ∷ H) what h j code other =
    let earlier : OnlyAt own H = λ i c o. omega (arith, h i c o) in
    omega (arith, h j code other, only_more own H what earlier j code other)

only_steady : (own n : ℕ) → Steady own n (λ s H. OnlyAt own H)
only_steady own n =
    record {
      up = λ b s H q. q;
      role = λ b s H q. q;
      writes =
          record {
            prepares = λ s H e q. only_more own H _ q;
            joins = λ k s H e g q. only_more own H _ q;
            decides = λ k s H e q. only_more own H _ q;
          };
      hears = λ said s H e q. q;
      forgets = λ s H q. q;
    }

pub turn_only :
    (w : World) (store : List ℕ) (own : ℕ) (m : Move) → Turn w store own m →
    (j code : ℕ) → (j ≡ own → ⊥) → written_at j code m.records ≡ 0
unfolding OnlyAt written_at
turn_only w store own m turn =
    turn_keeps w store own m (λ s H. OnlyAt own H) (only_steady own w.n) turn (λ j code h. refl)

-- another site of the world
pub other-site : (w : World) (own j : ℕ) (s : Site) → (j ≡ own → ⊥) → site_of (with_site own s w) j ≡ site_of w j
unfolding site_of with_site
other-site w own j s h = get_or-set_other w.sites own j s (blank_site false) h

seen-accepted : (w : World) (store : List ℕ) (c : Call) → Seen w store c → c.number ≡ 0 → Kept w store c
unfolding refuse enter_silent enter_row with_rows with_site site_of put_back with_news
seen-accepted w store c (as_refused number place h) e = absurd (h e)
seen-accepted w store c (as_silent next own m g z) e =
    record {
      own = own;
      own_below = g.below;
      other_sites_lem = λ j h. other-site w own j m.step.site h;
      same-n = refl;
      same-commit = refl;
      same-abort = refl;
      same-willing = refl;
      same_weights_lem = refl;
      rows_grow = omega arith;
      rows-by_one = omega arith;
      news-added = refl;
      same_length = refl;
      bytes_below = λ b h. refl;
      bytes-beyond = λ b h. refl;
      rows-below = λ k h. refl;
      own-records = turn_only w store own m g.turn;
    }
seen-accepted w store c (as_row next own m g z l) e =
    record {
      own = own;
      own_below = g.below;
      other_sites_lem = λ j h. other-site w own j m.step.site h;
      same-n = refl;
      same-commit = refl;
      same-abort = refl;
      same-willing = refl;
      same_weights_lem = refl;
      rows_grow = omega arith;
      rows-by_one = omega arith;
      news-added = refl;
      same_length = put_row-length store w.rows m.step.row;
      bytes_below = put_row-below store w.rows m.step.row;
      bytes-beyond = put_row-beyond store w.rows m.step.row;
      rows-below = λ k h. get_row_else store w.rows m.step.row k (omega arith);
      own-records = turn_only w store own m g.turn;
    }

pub accepted_keeps_the_rest : AcceptedKeepsTheRest
accepted_keeps_the_rest w store list at e = seen-accepted w store (one_command w store list at) (view w store list at) e
