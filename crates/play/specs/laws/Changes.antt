-- A command acts on one site. What it is told beside that site is the world's head, and what it changes is that site, the row
-- count and the news. These definitions say which call on a whole world such a change stands for.
use Rattle.std.specs.Prelude.{ℕ, ◌+◌, ◌≤◌, List, Result, Ok, Err, ◌≡◌, ltb, length}
use Rattle.choice.specs.Choice.{pick}
use Rattle.site.specs.declared.Site.{Site}
use Rattle.command.specs.declared.Command.{Command}
use Rattle.command.specs.declared.Command.TheVariants as Command·
use Rattle.command.specs.declared.Parsed.{Parsed}
use Rattle.command.specs.Commands.{found}
use Rattle.world.specs.declared.World.{World}
use Rattle.world.specs.Sizes.{max_news}
use Rattle.world.specs.Worlds.{sizes_held, site_of, with_site, with_rows, with_news}
use Rattle.refusals.specs.declared.Reason.{Reason}
use Rattle.refusals.specs.declared.Refusal.{Refusal}
use Rattle.refusals.specs.declared.Numbered.{Numbered}
use Rattle.refusals.specs.Refusals.{number_of}
use Rattle.play.specs.declared.Head.{Head}
use Rattle.play.specs.declared.Change.{Change}
use Rattle.play.specs.Calls.{Call, Told, played_of, refuse}
use Rattle.play.specs.Commands.{perform}

-- a world without its sites
unfoldable pub head_of : World → Head
head_of w = record { sizes = sizes_held w; rows = w.rows; news = w.news }

-- the world of these sites and this head
unfoldable pub world_of : List Site → Head → World
world_of sites h =
    record {
      sites = sites;
      n = h.sizes.n;
      commit = h.sizes.commit;
      abort = h.sizes.abort;
      willing = h.sizes.willing;
      weights = h.sizes.weights;
      rows = h.rows;
      news = h.news;
    }

-- what lets a command be played with no further check: sizes in range, rows that the store can hold, news within its limit
pub record Ready (h : Head) (store : List ℕ) : Type 0 where
  pub low : 3 ≤ h.sizes.n
  pub high : h.sizes.n ≤ 16
  pub few : h.rows ≤ 1024
  pub heard : h.news ≤ max_news
  pub room : 20480 ≤ length store

-- what a command leaves of its site, the row count and the news, with its number (0: accepted) and place
pub record SiteChange : Type 0 where
  pub number : ℕ
  pub site : Site
  pub rows : ℕ
  pub news : ℕ
  pub place : ℕ

-- nothing changed
abbrev pub refused_change : ℕ → Head → ℕ → Site → SiteChange
refused_change number h at s = record { number = number; site = s; rows = h.rows; news = h.news; place = at }

-- accepted: the site, so many rows now, and the news added to that before
abbrev pub entered_change : Site → ℕ → ℕ → ℕ → ℕ → SiteChange
entered_change s rows before news next = record { number = 0; site = s; rows = rows; news = before + news; place = next }

-- what the code's answer stands for: its change, or nothing changed and the reason's number
abbrev pub change_of : Head → Site → Result Change Refusal → SiteChange
change_of h s (Ok c) = record { number = 0; site = c.site; rows = c.rows; news = c.news; place = c.next }
change_of h s (Err r) = refused_change (number_of r.reason) h r.place s

-- the same of an answer that has no place, of a command at a place
abbrev pub entry_of : Head → ℕ → Site → Result Change Reason → SiteChange
entry_of h at s (Ok c) = record { number = 0; site = c.site; rows = c.rows; news = c.news; place = c.next }
entry_of h at s (Err reason) = refused_change (number_of reason) h at s

-- a change at site i put into the world
unfoldable pub changed : World → ℕ → SiteChange → Told
changed w i c =
    record { number = c.number; world = with_news c.news (with_rows c.rows (with_site i c.site w)); place = c.place }

-- a change put into the world
abbrev pub put_change : ℕ → Change → World → World
put_change i c w = with_news c.news (with_rows c.rows (with_site i c.site w))

-- in every world with this head, and with this site at i, the change and the store left are what the call gives
unfoldable pub Acts : Head → ℕ → Site → SiteChange → List ℕ → (World → Call) → Type 0
Acts h i s c store call =
    (sites : List Site) → site_of (world_of sites h) i ≡ s →
    (changed (world_of sites h) i c ≡ played_of (call (world_of sites h))) × (store ≡ (call (world_of sites h)).store)

-- the site that a command names; START is for site 0
unfoldable pub named_site : Command → ℕ
named_site Command·.Start = 0
named_site (Command·.Deliver d) = d.site
named_site (Command·.Timeout t) = t.site
named_site (Command·.Crash t) = t.site
named_site (Command·.Recover t) = t.site

-- the site that what was read acts on; 0 where it names none below n
unfoldable pub actor : {E : Type 0} → Result Parsed E → ℕ → ℕ
actor (Err r) n = 0
actor (Ok p) n = pick (ltb (named_site p.command) n) (named_site p.command) 0

-- an answer in words of the caller's own: the same change, or an error that was made of the same refusal, as `made` says
abbrev pub Handed : {E : Type 0} → (Refusal → E → Type 0) → Result Change Refusal → Result Change E → Type 0
Handed {E = E} made (Ok c) given = given ≡ Ok c
Handed {E = E} made (Err r) given = (e : E) × (given ≡ Err e) × made r e

-- what was read is acted out: an error is handed on as it is, and nothing is changed; a command gives an answer in words of the caller's own
unfoldable pub ActsRead : {E : Type 0} → (Refusal → E → Type 0) → Result Parsed E → ℕ → Head → Site → Result Change E → List ℕ → List ℕ → Type 0
ActsRead made (Err e) at h s given before after = (given ≡ Err e) × (after ≡ before)
ActsRead made (Ok p) at h s given before after =
    (r : Result Change Refusal) × Handed made r given
    × Acts h (actor (found p.command p.next) h.sizes.n) s (change_of h s r) after (λ w. perform p.command w before at p.next)

-- the same of errors that tell a number, which may be any: the change that an answer stands for, and the call that is made of what was read
abbrev pub change_numbered : Head → Site → Result Change Numbered → SiteChange
change_numbered h s (Ok c) = record { number = 0; site = c.site; rows = c.rows; news = c.news; place = c.next }
change_numbered h s (Err e) = refused_change e.number h e.place s

abbrev pub perform_numbered : Result Parsed Numbered → World → List ℕ → ℕ → Call
perform_numbered (Err e) w store at = refuse e.number w store e.place
perform_numbered (Ok p) w store at = perform p.command w store at p.next
