-- A call as one site sees it.
use Rattle.std.specs.Prelude.{ℕ, List, ◌≡◌, refl}
use Rattle.std.proofs.Common.{sym, subst, arith}
use Rattle.choice.specs.laws.Cases.{by_equal}
use Rattle.site.specs.declared.Site.{Site}
use Rattle.site.specs.Records.{Written}
use Rattle.rules.specs.Rules.{Move}
use Rattle.world.specs.declared.World.{World}
use Rattle.world.specs.Worlds.{site_of, with_site, with_rows, with_news}
use Rattle.world.specs.laws.WorldLaws.{valid-sized, put_ind}
use Rattle.play.specs.Calls.{Call, refuse, put_back, enter_silent, enter_row}
use Rattle.history.specs.Safe.{written_at}
use Rattle.safety.specs.Claims.{Shaped}
use Rattle.safety.proofs.laws.View.{Turn, Granted, Seen, as_refused, as_silent, as_row}
use Rattle.safety.proofs.laws.Unchanging.{turn_only, other-site}

-- site and records after a call: the site stays and writes nothing, or it has taken a turn
pub data AtSite (w : World) (store : List ℕ) (j : ℕ) (site : Site) (records : List Written) : Type 0 where
  stays : site ≡ site_of w j → ((code : ℕ) → written_at j code records ≡ 0) → AtSite w store j site records
  turns : (m : Move) → Turn w store j m → site ≡ m.step.site → records ≡ m.records → AtSite w store j site records

moved_at :
    (w : World) (store : List ℕ) (own j : ℕ) (m : Move) → Shaped w → Granted w store own m →
    AtSite w store j (site_of (with_site own m.step.site w) j) m.records
moved_at w store own j m shaped g =
    by_equal j own
    (λ e. turns m (subst (λ i. Turn w store i m) (sym e) g.turn)
    (put_ind (λ s. s ≡ m.step.site) w own m.step.site j (omega (arith, shaped.sites, valid-sized w g.valid))
    (λ _. refl) (λ other. absurd (other e))) refl)
    (λ other. stays (other-site w own j m.step.site other) (λ code. turn_only w store own m g.turn j code other))

pub seen_at : (w : World) (store : List ℕ) (j : ℕ) (c : Call) → Shaped w → Seen w store c → AtSite w store j (site_of c.world j) c.records
unfolding refuse enter_silent enter_row put_back site_of with_rows with_news written_at
seen_at w store j c shaped (as_refused number place other) = stays refl (λ code. refl)
seen_at w store j c shaped (as_silent next own m g none) = moved_at w store own j m shaped g
seen_at w store j c shaped (as_row next own m g some room) = moved_at w store own j m shaped g
