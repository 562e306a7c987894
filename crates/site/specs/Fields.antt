-- A site with one field changed, and the site with nothing in it.
use Rattle.std.specs.Prelude.{ℕ, Bool, false, List, replicate}
use Rattle.site.specs.declared.Group.{Group}
use Rattle.site.specs.declared.Group.TheVariants as Group·
use Rattle.site.specs.declared.Outcome.{Outcome}
use Rattle.site.specs.declared.Outcome.TheVariants as Outcome·
use Rattle.site.specs.declared.Site.{Site}

-- all entries 0
unfoldable pub zero_vector : List ℕ
zero_vector = replicate 16 0

-- up or down, subordinate, empty log, both vectors 0
unfoldable pub blank_site : Bool → Site
blank_site up =
    record {
      up = up;
      coordinator = false;
      prepared = false;
      group = Group·.None;
      joined = zero_vector;
      outcome = Outcome·.None;
      codes = zero_vector;
    }

unfoldable pub with_up : Bool → Site → Site
with_up x s =
    record {
      up = x;
      coordinator = s.coordinator;
      prepared = s.prepared;
      group = s.group;
      joined = s.joined;
      outcome = s.outcome;
      codes = s.codes;
    }

unfoldable pub with_coordinator : Bool → Site → Site
with_coordinator x s =
    record {
      up = s.up;
      coordinator = x;
      prepared = s.prepared;
      group = s.group;
      joined = s.joined;
      outcome = s.outcome;
      codes = s.codes;
    }

unfoldable pub with_prepared : Bool → Site → Site
with_prepared x s =
    record {
      up = s.up;
      coordinator = s.coordinator;
      prepared = x;
      group = s.group;
      joined = s.joined;
      outcome = s.outcome;
      codes = s.codes;
    }

-- the group record: the group, with the vector as it is after joining
unfoldable pub with_group : Group → List ℕ → Site → Site
with_group x v s =
    record {
      up = s.up;
      coordinator = s.coordinator;
      prepared = s.prepared;
      group = x;
      joined = v;
      outcome = s.outcome;
      codes = s.codes;
    }

unfoldable pub with_outcome : Outcome → Site → Site
with_outcome x s =
    record {
      up = s.up;
      coordinator = s.coordinator;
      prepared = s.prepared;
      group = s.group;
      joined = s.joined;
      outcome = x;
      codes = s.codes;
    }

unfoldable pub with_codes : List ℕ → Site → Site
with_codes x s =
    record {
      up = s.up;
      coordinator = s.coordinator;
      prepared = s.prepared;
      group = s.group;
      joined = s.joined;
      outcome = s.outcome;
      codes = x;
    }
