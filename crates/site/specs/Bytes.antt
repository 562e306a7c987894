-- The bytes of a group and of an outcome.
use Rattle.std.specs.Prelude.{ℕ, eqb}
use Rattle.choice.specs.Choice.{pick}
use Rattle.site.specs.declared.Group.{Group}
use Rattle.site.specs.declared.Group.TheVariants as Group·
use Rattle.site.specs.declared.Outcome.{Outcome}
use Rattle.site.specs.declared.Outcome.TheVariants as Outcome·

-- 0 none, 1 commit, 2 abort
unfoldable pub group_byte : Group → ℕ
group_byte Group·.None = 0
group_byte Group·.Commit = 1
group_byte Group·.Abort = 2

-- 0 none, 1 commit, 2 abort
unfoldable pub outcome_byte : Outcome → ℕ
outcome_byte Outcome·.None = 0
outcome_byte Outcome·.Commit = 1
outcome_byte Outcome·.Abort = 2

unfoldable pub group_of : ℕ → Group
group_of x = pick (eqb x 1) Group·.Commit (pick (eqb x 2) Group·.Abort Group·.None)

unfoldable pub outcome_of : ℕ → Outcome
outcome_of x = pick (eqb x 1) Outcome·.Commit (pick (eqb x 2) Outcome·.Abort Outcome·.None)
