-- Laws of the calls, and of the changes that they amount to.
use Rattle.std.specs.Prelude.{ℕ, ◌+◌, ◌-◌, ◌≤◌, ◌<◌, true, false, List, ◌≡◌, refl, leb, length, set}
use Rattle.std.proofs.Common.{ap, sym, ◌∙◌, arith}
use Rattle.std.proofs.lemmas.List.{set-get_or}
use borrow.Author.Tests.{lt-ltb, le-ltb, le-leb, lt-leb, leb-true, leb-false, eq-eqb, ne_eqb}
use Rattle.choice.specs.laws.Cases.{by_test}
use Rattle.row.specs.Rows.{put_row}
use Rattle.site.specs.declared.Site.{Site}
use Rattle.site.specs.Records.{Written}
use Rattle.rules.specs.Rules.{Stepped}
use Rattle.site.specs.Fields.{blank_site}
use Rattle.command.specs.declared.Command.{Command}
use Rattle.command.specs.declared.Command.TheVariants as Command·
use Rattle.command.specs.declared.Parsed.{Parsed}
use Rattle.refusals.specs.declared.Reason.TheVariants as Reason·
use Rattle.refusals.specs.declared.Numbered.{Numbered}
use Rattle.refusals.specs.Refusals.{number_of, by_number}
use Rattle.refusals.specs.declared.Refusal.{Refusal}
use Rattle.command.specs.Readings.{Reading}
use Rattle.std.specs.Prelude.{Result, Ok, Err}
use Rattle.command.specs.Commands.{read_command, found}
use Rattle.world.specs.declared.World.{World}
use Rattle.world.specs.Sizes.{max_news, store_bytes}
use Rattle.world.specs.Valid.{valid_world}
use Rattle.world.specs.Worlds.{site_of, with_site, with_rows, with_news}
use Rattle.world.specs.laws.WorldLaws.{valid_parts, valid-sized}
use Rattle.play.specs.declared.Head.{Head}
use Rattle.play.specs.declared.Change.{Change}
use Rattle.play.specs.Calls.{refuse, put_back, enter_silent, enter_row, within_news, enter, played_of}
use Rattle.play.specs.laws.Changes.{
  Ready,
  Acts,
  ActsRead,
  Handed,
  head_of,
  world_of,
  changed,
  SiteChange,
  refused_change,
  entered_change,
  change_of,
  change_numbered,
  perform_numbered,
  named_site,
  actor,
}
use Rattle.play.specs.Commands.{timeout_call, crash_call, recover_call, deliver_call, perform, perform_read, play_command, one_command}

-- a world that passes 17 and a store with room need no further check
pub ready : (w : World) (store : List ℕ) → store_bytes ≤ length store → valid_world w ≡ true → Ready (head_of w) store
unfolding head_of
ready w store room valid =
    record {
      low = (valid-sized w valid).low;
      high = (valid-sized w valid).high;
      few = (valid_parts w valid).rows;
      heard = (valid_parts w valid).news;
      room = room;
    }

-- neither 16 nor 17
pub one-is_play :
    (w : World) (store list : List ℕ) (at : ℕ) → store_bytes ≤ length store → valid_world w ≡ true →
    one_command w store list at ≡ play_command w store list at
unfolding one_command
one-is_play w store list at room valid = rw (le-ltb (length store) store_bytes room, valid)

-- a refusal changes nothing
pub refused_acts :
    (number : ℕ) (h : Head) (i : ℕ) (s : Site) (store : List ℕ) (at : ℕ) →
    Acts h i s (refused_change number h at s) store (λ w. refuse number w store at)
unfolding Acts refuse played_of changed with_news with_rows with_site site_of world_of
refused_acts number h i s store at sites e = (
  ap (λ l. record { number = number; world = world_of l h; place = at })
      (ap (λ x. set sites i x) (sym e) ∙ set-get_or sites i (blank_site false)),
  refl,
)

-- the news fits exactly if it is no more than the room left
pub fits-by-room : (before news : ℕ) → before ≤ max_news → leb news (max_news - before) ≡ leb (before + news) max_news
fits-by-room before news h =
    by_test (leb news (max_news - before))
    (λ e. e ∙ sym (le-leb (before + news) max_news (omega (arith, leb-true news (max_news - before) e))))
    (λ e. e ∙ sym (lt-leb (before + news) max_news (omega (arith, leb-false news (max_news - before) e))))

-- a rule's step put into world and store: each way out of `enter`
module _ (h : Head) (own : ℕ) (s : Site) (step : Stepped) (records : List Written) (store : List ℕ) (at next : ℕ) where
  abbrev Enters : SiteChange → List ℕ → Type 0
  Enters c after = Acts h own s c after (λ w. enter w store at next own (record { step = step; records = records }))

  pub acts_silent :
      step.row.kind ≡ 0 → h.news + step.news ≤ max_news → Enters (entered_change step.site h.rows h.news step.news next) store
  unfolding Acts changed world_of enter within_news enter_silent put_back played_of with_site with_rows with_news
  acts_silent none few sites e = (simp (eq-eqb _ _ none, le-leb _ _ few), simp (eq-eqb _ _ none, le-leb _ _ few))

  pub acts_row :
      (step.row.kind ≡ 0 → ⊥) → h.rows < 1024 → h.news + step.news ≤ max_news →
      Enters (entered_change step.site (h.rows + 1) h.news step.news next) (put_row store h.rows step.row)
  unfolding Acts changed world_of enter within_news enter_row put_back played_of with_site with_rows with_news
  acts_row some room few sites e = (
    simp (ne_eqb _ _ some, lt-ltb _ _ room, le-leb _ _ few),
    simp (ne_eqb _ _ some, lt-ltb _ _ room, le-leb _ _ few),
  )

  -- 15
  pub acts_full : (step.row.kind ≡ 0 → ⊥) → 1024 ≤ h.rows → Enters (refused_change 15 h at s) store
  unfolding Acts enter world_of
  acts_full some full sites e = simp (ne_eqb _ _ some, le-ltb _ _ full) (refused_acts 15 h own s store at sites e)

  -- 17, with no row or with room for it
  pub acts_past-silent : step.row.kind ≡ 0 → max_news < h.news + step.news → Enters (refused_change 17 h at s) store
  unfolding Acts enter within_news world_of
  acts_past-silent none past sites e = simp (eq-eqb _ _ none, lt-leb _ _ past) (refused_acts 17 h own s store at sites e)

  pub acts_past-row :
      (step.row.kind ≡ 0 → ⊥) → h.rows < 1024 → max_news < h.news + step.news → Enters (refused_change 17 h at s) store
  unfolding Acts enter within_news world_of
  acts_past-row some room past sites e =
      simp (ne_eqb _ _ some, lt-ltb _ _ room, lt-leb _ _ past) (refused_acts 17 h own s store at sites e)

-- a command that names no site below n is refused with 8
unnamed :
    (command : Command) (w : World) (store : List ℕ) (at next : ℕ) → 0 < w.n → w.n ≤ named_site command →
    perform command w store at next ≡ refuse 8 w store at
unfolding perform named_site deliver_call timeout_call crash_call recover_call
unnamed Command·.Start w store at next some past = absurd (omega arith)
unnamed (Command·.Deliver d) w store at next some past = simp (le-ltb _ _ past)
unnamed (Command·.Timeout t) w store at next some past = simp (le-ltb _ _ past)
unnamed (Command·.Crash t) w store at next some past = simp (le-ltb _ _ past)
unnamed (Command·.Recover t) w store at next some past = simp (le-ltb _ _ past)

unnamed_acts :
    (command : Command) (h : Head) (s : Site) (store : List ℕ) (at next : ℕ) → 0 < h.sizes.n → h.sizes.n ≤ named_site command →
    Acts h 0 s (refused_change 8 h at s) store (λ w. perform command w store at next)
unfolding Acts world_of
unnamed_acts command h s store at next some past sites e =
    rw (unnamed command (world_of sites h) store at next some past) (refused_acts 8 h 0 s store at sites e)

module _ (reading : Reading) (h : Head) (s : Site) (c : SiteChange) (store : List ℕ) (at : ℕ) where
  -- 6 or 7
  pub acts_refused :
      (r : Refusal) → reading ≡ Err r → c ≡ refused_change (number_of r.reason) h r.place s →
      Acts h (actor reading h.sizes.n) s c store (λ w. perform_read reading w store at)
  unfolding perform_read actor
  acts_refused r e f = rw (e, f) (refused_acts (number_of r.reason) h 0 s store r.place)

  -- a command that names a site below n
  pub acts_named :
      (p : Parsed) (after : List ℕ) → reading ≡ Ok p → named_site p.command < h.sizes.n →
      Acts h (named_site p.command) s c after (λ w. perform p.command w store at p.next) →
      Acts h (actor reading h.sizes.n) s c after (λ w. perform_read reading w store at)
  unfolding perform_read actor
  acts_named p after e below acts = rw (e, lt-ltb _ _ below) acts

  -- one that names none: 8
  pub acts_unnamed :
      (p : Parsed) → reading ≡ Ok p → 0 < h.sizes.n → h.sizes.n ≤ named_site p.command → c ≡ refused_change 8 h at s →
      Acts h (actor reading h.sizes.n) s c store (λ w. perform_read reading w store at)
  unfolding perform_read actor
  acts_unnamed p e some past f = rw (e, f, le-ltb _ _ past) (unnamed_acts p.command h s store at p.next some past)

-- what was read, with an answer in words of the caller's own: each way out of `act`
module _ {E : Type 0} (made : Refusal → E → Type 0) (reading : Result Parsed E) (at : ℕ) (h : Head) (s : Site) (given : Result Change E) (before : List ℕ) where
  -- an error that was read
  pub read_refused : (e : E) → reading ≡ Err e → given ≡ Err e → ActsRead made reading at h s given before before
  unfolding ActsRead
  read_refused e f g = rw f (g, refl)

  -- a command that names a site below n
  pub read_named :
      (p : Parsed) (after : List ℕ) (r : Result Change Refusal) → reading ≡ Ok p → named_site p.command < h.sizes.n → Handed made r given →
      Acts h (named_site p.command) s (change_of h s r) after (λ w. perform p.command w before at p.next) →
      ActsRead made reading at h s given before after
  unfolding ActsRead actor found
  read_named p after r e below handed acts = rw (e, lt-ltb _ _ below) (r, handed, acts)

  -- one that names none: 8
  pub read_unnamed :
      (p : Parsed) (e : E) → reading ≡ Ok p → 0 < h.sizes.n → h.sizes.n ≤ named_site p.command → given ≡ Err e →
      made (record { reason = Reason·.NoSuchSite; place = at }) e → ActsRead made reading at h s given before before
  unfolding ActsRead actor found
  read_unnamed p e f some past g m =
      rw (f, le-ltb _ _ past)
      (Err (record { reason = Reason·.NoSuchSite; place = at }), (e, g, m), unnamed_acts p.command h s before at p.next some past)

-- where the caller's words are the refusals themselves
handed-same : (r given : Result Change Refusal) → Handed (λ x y. y ≡ x) r given → given ≡ r
handed-same (Ok c) given e = e
handed-same (Err x) given (y, e, f) = rw (e, f) refl

pub acts_read :
    (reading : Reading) (at : ℕ) (h : Head) (s : Site) (given : Result Change Refusal) (before after : List ℕ) →
    ActsRead (λ x y. y ≡ x) reading at h s given before after →
    Acts h (actor reading h.sizes.n) s (change_of h s given) after (λ w. perform_read reading w before at)
unfolding ActsRead perform_read actor found
acts_read (Err e) at h s given before after a = rw (a.0, a.1) (refused_acts (number_of e.reason) h 0 s before e.place)
acts_read (Ok p) at h s given before after a = rw (handed-same a.0 given a.1) a.2

-- where they tell a number, which may be any
handed-numbered :
    (h : Head) (s : Site) (r : Result Change Refusal) (given : Result Change Numbered) → Handed (λ x y. y ≡ by_number x) r given →
    change_numbered h s given ≡ change_of h s r
handed-numbered h s (Ok c) given e = rw e refl
handed-numbered h s (Err x) given (y, e, f) = rw (e, f) refl

pub acts_numbered :
    (reading : Result Parsed Numbered) (at : ℕ) (h : Head) (s : Site) (given : Result Change Numbered) (before after : List ℕ) →
    ActsRead (λ x y. y ≡ by_number x) reading at h s given before after →
    Acts h (actor reading h.sizes.n) s (change_numbered h s given) after (λ w. perform_numbered reading w before at)
unfolding ActsRead actor found
acts_numbered (Err e) at h s given before after a = rw (a.0, a.1) (refused_acts e.number h 0 s before e.place)
acts_numbered (Ok p) at h s given before after a = rw (handed-numbered h s a.0 given a.1) a.2

-- a change on the site that a list's command acts on
pub acts_played :
    (sites : List Site) (h : Head) (store list : List ℕ) (at : ℕ) (reading : Reading) (own : ℕ) (s : Site) (c : SiteChange)
    (after : List ℕ) →
    reading ≡ read_command list at → own ≡ actor reading h.sizes.n → s ≡ site_of (world_of sites h) own →
    Acts h (actor reading h.sizes.n) s c after (λ w. perform_read reading w store at) →
    (changed (world_of sites h) own c ≡ played_of (play_command (world_of sites h) store list at))
    × (after ≡ (play_command (world_of sites h) store list at).store)
unfolding Acts play_command
acts_played sites h store list at reading own s c after e f g acts = rw (f, ← e) (acts sites (rw f at (sym g)))

-- what is told where nothing changed is the world itself
pub refused_told :
    (w : World) (i number place : ℕ) (s : Site) → s ≡ site_of w i →
    changed w i (refused_change number (head_of w) place s) ≡ record { number = number; world = w; place = place }
unfolding changed head_of world_of with_news with_rows with_site site_of
refused_told w i number place s e =
    ap (λ l. record { number = number; world = world_of l (head_of w); place = place })
    (ap (λ x. set w.sites i x) e ∙ set-get_or w.sites i (blank_site false))
