-- What is claimed of one site's step. The proofs are in laws/, and those of logs in proofs/.
use Rattle.std.specs.Prelude.{ℕ, ◌≤◌, Bool, true, false, List, [], ◌∷◌, ◌≡◌, length, set}
use Rattle.choice.specs.Choice.{pick}
use Rattle.row.specs.Rows.{no_row, put_row_at}
use Rattle.site.specs.declared.Group.{Group}
use Rattle.site.specs.declared.Group.TheVariants as Group·
use Rattle.site.specs.declared.Outcome.{Outcome}
use Rattle.site.specs.declared.Outcome.TheVariants as Outcome·
use Rattle.site.specs.declared.Site.{Site}
use Rattle.site.specs.State.{state_by, code_of}
use Rattle.rules.specs.Rules.{kept_vector}
use Rattle.member.specs.declared.Member.{Member}
use Rattle.member.specs.declared.Order.TheVariants as Order·
use Rattle.std.specs.Prelude.{Ok}
use Rattle.member.specs.declared.Logged.{Logged}
use Rattle.member.specs.Orders.{row_in, read_order}
use Rattle.member.specs.Steps.{Answer, site_step, valid_member, logged}

-- what the site's type says of every site that the code holds: two vectors of sixteen codes
pub record Long (s : Site) : Type 0 where
  pub codes : length s.codes ≡ 16
  pub joined : length s.joined ≡ 16

-- a refused step, of whatever number, changes nothing, sends nothing and writes no record
pub record Stays (s : Site) (a : Answer) : Type 0 where
  pub site-same : a.site ≡ s
  pub no_row_lem : a.row ≡ no_row
  pub no_news : a.news ≡ 0
  pub no_record : a.records ≡ []

abbrev pub RefusedStays : Type 0
RefusedStays = (m : Member) (s : Site) (bytes : List ℕ) → ((site_step m s bytes).number ≡ 0 → ⊥) → Stays s (site_step m s bytes)

-- an accepted step leaves a site that passes 17 again
pub record Ready (m : Member) (s : Site) : Type 0 where
  pub long : Long s
  pub valid : valid_member m s ≡ true

abbrev pub AcceptedStaysValid : Type 0
AcceptedStaysValid =
    (m : Member) (s : Site) (bytes : List ℕ) → Long s → (site_step m s bytes).number ≡ 0 → Ready m (site_step m s bytes).site

-- THE LOG IS ENOUGH. The site that the log's three places make, the group record with its vector: down, subordinate; the codes are the group
-- record's, or all 0, with the own entry set to the state
unfoldable pub site_of_log : ℕ → Bool → Group → List ℕ → Outcome → Site
site_of_log own prepare group vector outcome =
    record {
      up = false;
      coordinator = false;
      prepared = prepare;
      group = group;
      joined = vector;
      outcome = outcome;
      codes = set (kept_vector group vector) own (code_of (state_by outcome group prepare));
    }

-- what CRASH leaves is that site
abbrev pub LogIsEnough : Type 0
LogIsEnough =
    (m : Member) (s : Site) (bytes : List ℕ) → read_order bytes ≡ Ok Order·.Crash → (site_step m s bytes).number ≡ 0 →
    (site_step m s bytes).site ≡ site_of_log m.own s.prepared s.group s.joined s.outcome

-- what is new in a log: the places that were none before
unfoldable pub new_group : Group → Group → Group
new_group Group·.None after = after
new_group Group·.Commit after = Group·.None
new_group Group·.Abort after = Group·.None

unfoldable pub new_outcome : Outcome → Outcome → Outcome
new_outcome Outcome·.None after = after
new_outcome Outcome·.Commit after = Outcome·.None
new_outcome Outcome·.Abort after = Outcome·.None

unfoldable pub new_log : Site → Site → Logged
new_log before after =
    record {
      prepare = pick before.prepared false after.prepared;
      group = new_group before.group after.group;
      outcome = new_outcome before.outcome after.outcome;
    }

-- a log only grows: what a step says it has written is what is new, and what was written before stays
pub record LogGrows (s after : Site) (written : Logged) : Type 0 where
  pub new : written ≡ new_log s after
  pub prepare-stays : s.prepared ≡ true → after.prepared ≡ true
  pub group-stays : (s.group ≡ Group·.None → ⊥) → after.group ≡ s.group
  pub vector_stays : written.group ≡ Group·.None → after.joined ≡ s.joined
  pub outcome-stays : (s.outcome ≡ Outcome·.None → ⊥) → after.outcome ≡ s.outcome

abbrev pub LogsGrow : Type 0
LogsGrow = (m : Member) (s : Site) (bytes : List ℕ) → LogGrows s (site_step m s bytes).site (logged (site_step m s bytes).records)

-- a step writes at most one record, so a log is forced in one write: a machine that stops before it has not taken the step, and after it has
abbrev pub OneRecord : Type 0
OneRecord = (m : Member) (s : Site) (bytes : List ℕ) → length (site_step m s bytes).records ≤ 1

-- a row that is sent names this site as its sender, and its twenty bytes, with a 2 before them, are the delivery of this very row
pub record Arrives (m : Member) (a : Answer) : Type 0 where
  pub from : a.row.sender ≡ m.own
  pub delivers :
      (bytes : List ℕ) → length bytes ≡ 20 → read_order (2 ∷ put_row_at bytes 0 a.row) ≡ Ok Order·.Deliver
  pub same : (bytes : List ℕ) → length bytes ≡ 20 → row_in (2 ∷ put_row_at bytes 0 a.row) ≡ a.row

abbrev pub RowsArrive : Type 0
RowsArrive =
    (m : Member) (s : Site) (bytes : List ℕ) → Long s → ((site_step m s bytes).row.kind ≡ 0 → ⊥) → Arrives m (site_step m s bytes)
