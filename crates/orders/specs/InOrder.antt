-- DELIVER with the other sites' entries taken in any order, a list of sites: the rule but for the merge.
use Rattle.std.specs.Prelude.{ℕ, Bool, List}
use Rattle.merging.specs.Merging.{merging_in_order}
use Rattle.row.specs.declared.Row.{Row}
use Rattle.site.specs.declared.Site.{Site}
use Rattle.site.specs.Fields.{with_codes}
use Rattle.rules.specs.Rules.{Move, after_hearing}

-- first: merge in the order
unfoldable pub hear_in_order : List ℕ → Row → Site → Site
hear_in_order order row s = with_codes (merging_in_order order row.codes s.codes).codes s

-- then as the rule has it
unfoldable pub deliver_in_order : List ℕ → ℕ → ℕ → Bool → Row → Site → Move
deliver_in_order order own n willing row s =
    after_hearing (merging_in_order order row.codes s.codes).news own n willing row (hear_in_order order row s)
