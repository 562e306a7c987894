-- The report's lines, each as its bytes.
use Rattle.std.specs.Prelude.{ℕ, zero, suc, ◌+◌, Bool, true, false, List, [], ◌∷◌, ◌++◌, eqb, get_or}
use Prim.Native.String.{String}
use Rattle.choice.specs.Choice.{pick}
use Rattle.text.specs.Text.{text, decimal, named}
use Rattle.site.specs.declared.Group.{Group}
use Rattle.site.specs.declared.Group.TheVariants as Group·
use Rattle.site.specs.declared.Outcome.{Outcome}
use Rattle.site.specs.declared.Outcome.TheVariants as Outcome·
use Rattle.site.specs.declared.State.{State}
use Rattle.site.specs.declared.State.TheVariants as State·
use Rattle.site.specs.declared.Site.{Site}
use Rattle.site.specs.State.{state_of}
use Rattle.world.specs.declared.World.{World}
use Rattle.world.specs.Worlds.{site_of}

-- sizes, accepted events, rows, news
unfoldable pub sizes_line : World → ℕ → List ℕ
sizes_line w events =
    named "sites " w.n ++ named " commit " w.commit.0 ++ named " abort " w.abort.0 ++ named " events " events
    ++ named " rows " w.rows ++ named " news " w.news ++ text "\n"

unfoldable pub up_word : Bool → String
up_word true = " up "
up_word false = " down "

unfoldable pub role_word : Bool → String
role_word true = "coordinator "
role_word false = "subordinate "

unfoldable pub state_word : State → String
state_word State·.Active = "active "
state_word State·.Prepared = "prepared "
state_word State·.CommitGroup = "commit-group "
state_word State·.AbortGroup = "abort-group "
state_word State·.Committed = "committed "
state_word State·.Aborted = "aborted "

-- log letters: P; C or A for the group; c or a for the outcome; - for none
unfoldable pub prepare_letter : Bool → String
prepare_letter true = "P"
prepare_letter false = "-"

unfoldable pub group_letter : Group → String
group_letter Group·.None = "-"
group_letter Group·.Commit = "C"
group_letter Group·.Abort = "A"

unfoldable pub outcome_letter : Outcome → String
outcome_letter Outcome·.None = "-"
outcome_letter Outcome·.Commit = "c"
outcome_letter Outcome·.Abort = "a"

unfoldable pub log_letters : Site → List ℕ
log_letters s = text (prepare_letter s.prepared) ++ text (group_letter s.group) ++ text (outcome_letter s.outcome)

-- the first k codes, a digit each
unfoldable pub code_digits : ℕ → List ℕ → List ℕ
code_digits zero v = []
code_digits (suc k) v = code_digits k v ++ ((48 + get_or v k 0) ∷ [])

-- number, up or down, role, state, log, n codes
unfoldable pub site_line : ℕ → ℕ → Site → List ℕ
site_line i n s =
    decimal i ++ text (up_word s.up) ++ text (role_word s.coordinator) ++ text (state_word (state_of s)) ++ log_letters s
    ++ text " " ++ code_digits n s.codes ++ text "\n"

-- one line a site, for the sites below k
unfoldable pub site_lines : ℕ → World → List ℕ
site_lines zero w = []
site_lines (suc k) w = site_lines k w ++ site_line k w.n (site_of w k)

-- the end place, or the refusal with its place
unfoldable pub last_line : ℕ → ℕ → List ℕ
last_line number place =
    pick (eqb number 0) (named "end " place ++ text "\n") (named "refused " number ++ named " at " place ++ text "\n")
