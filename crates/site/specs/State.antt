-- A site's state: its outcome if it has one, else its group, else prepared, else active.
use Rattle.std.specs.Prelude.{ℕ, Bool, true, false, List, leb}
use Rattle.weights.specs.Weights.{weight_of}
use Rattle.vector.specs.Vector.{weigh}
use Rattle.site.specs.declared.Group.{Group}
use Rattle.site.specs.declared.Group.TheVariants as Group·
use Rattle.site.specs.declared.Outcome.{Outcome}
use Rattle.site.specs.declared.Outcome.TheVariants as Outcome·
use Rattle.site.specs.declared.State.{State}
use Rattle.site.specs.declared.State.TheVariants as State·
use Rattle.site.specs.declared.Site.{Site}
use Rattle.site.specs.declared.CommitQuorum.{CommitQuorum}
use Rattle.site.specs.declared.AbortQuorum.{AbortQuorum}

unfoldable pub state_by : Outcome → Group → Bool → State
state_by Outcome·.Commit g p = State·.Committed
state_by Outcome·.Abort g p = State·.Aborted
state_by Outcome·.None Group·.Commit p = State·.CommitGroup
state_by Outcome·.None Group·.Abort p = State·.AbortGroup
state_by Outcome·.None Group·.None true = State·.Prepared
state_by Outcome·.None Group·.None false = State·.Active

unfoldable pub state_of : Site → State
state_of s = state_by s.outcome s.group s.prepared

-- the code of a state
unfoldable pub code_of : State → ℕ
code_of State·.Active = 0
code_of State·.Prepared = 1
code_of State·.CommitGroup = 2
code_of State·.AbortGroup = 3
code_of State·.Committed = 4
code_of State·.Aborted = 5

-- committed or aborted
unfoldable pub is_terminated : State → Bool
is_terminated State·.Active = false
is_terminated State·.Prepared = false
is_terminated State·.CommitGroup = false
is_terminated State·.AbortGroup = false
is_terminated State·.Committed = true
is_terminated State·.Aborted = true

unfoldable pub is_active : State → Bool
is_active State·.Active = true
is_active State·.Prepared = false
is_active State·.CommitGroup = false
is_active State·.AbortGroup = false
is_active State·.Committed = false
is_active State·.Aborted = false

-- the entries below n that are 2 weigh at least C: the commit quorum is measured against the commit group alone
unfoldable pub commit_reached : CommitQuorum → List ℕ → ℕ → List ℕ → Bool
commit_reached c weights n v = leb c.0 (weigh (weight_of weights) n v 2)

-- the entries below n that are 3 weigh at least A
unfoldable pub abort_reached : AbortQuorum → List ℕ → ℕ → List ℕ → Bool
abort_reached a weights n v = leb a.0 (weigh (weight_of weights) n v 3)
