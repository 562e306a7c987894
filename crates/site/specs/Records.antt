-- Records written to a site's log, and the site after writing one. The own entry follows the state.
use Rattle.std.specs.Prelude.{ℕ, true, set}
use Rattle.site.specs.declared.Group.{Group}
use Rattle.site.specs.declared.Group.TheVariants as Group·
use Rattle.site.specs.declared.Outcome.{Outcome}
use Rattle.site.specs.declared.Outcome.TheVariants as Outcome·
use Rattle.site.specs.declared.Site.{Site}
use Rattle.site.specs.Fields.{with_prepared, with_group, with_outcome, with_codes}

-- the kinds of a group or outcome record
pub data Kind : Type 0 where
  commit abort : Kind

-- a record's place in the log, and its kind
pub data LogRecord : Type 0 where
  prepare_record : LogRecord
  group_record : Kind → LogRecord
  outcome_record : Kind → LogRecord

-- a record written: at which site, and what
pub record Written : Type 0 where
  pub site : ℕ
  pub what : LogRecord

abbrev pub wrote : ℕ → LogRecord → Written
wrote own what = record { site = own; what = what }

unfoldable pub group_of : Kind → Group
group_of commit = Group·.Commit
group_of abort = Group·.Abort

unfoldable pub outcome_of : Kind → Outcome
outcome_of commit = Outcome·.Commit
outcome_of abort = Outcome·.Abort

-- the code of the state that a record leads to
unfoldable pub record_code : LogRecord → ℕ
record_code prepare_record = 1
record_code (group_record commit) = 2
record_code (group_record abort) = 3
record_code (outcome_record commit) = 4
record_code (outcome_record abort) = 5

-- the own entry set
unfoldable pub with_own : ℕ → ℕ → Site → Site
with_own own code s = with_codes (set s.codes own code) s

-- write P
unfoldable pub write_prepare : ℕ → Site → Site
write_prepare own s = with_prepared true (with_own own 1 s)

-- join a group: the record keeps the vector as it is after joining
unfoldable pub join_group : Kind → ℕ → Site → Site
join_group k own s =
    with_group (group_of k) (set s.codes own (record_code (group_record k))) (with_own own (record_code (group_record k)) s)

-- write an outcome
unfoldable pub write_outcome : Kind → ℕ → Site → Site
write_outcome k own s = with_outcome (outcome_of k) (with_own own (record_code (outcome_record k)) s)
