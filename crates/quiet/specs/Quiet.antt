-- A QUIET DAY's commands (request (v)): nothing is lost, late or repeated, and no site goes down. Site 0 commands three times, by START and twice by
-- TIMEOUT; each command goes to every other site, and every reply comes back to site 0. A reply is the row after those before it, and what a
-- reply makes of site 0 adds no row: so with m other sites the m rows after a command's are the replies to it, in the order of the sites.
use Rattle.std.specs.Prelude.{ℕ, zero, suc, ◌+◌, ◌-◌, ◌*◌, List, [], ◌∷◌, ◌++◌}
use Rattle.command.specs.declared.Command.{Command}
use Rattle.command.specs.declared.Command.TheVariants as Command·

-- DELIVER row k to site j
unfoldable pub row_to : ℕ → ℕ → Command
row_to k j = Command·.Deliver (record { row = k; site = j })

-- TIMEOUT at site 0
unfoldable pub waited : Command
waited = Command·.Timeout (record { site = 0 })

-- row k to each of the sites 1 to m
unfoldable pub to_each : ℕ → ℕ → List Command
to_each k zero = []
to_each k (suc m) = to_each k m ++ (row_to k (suc m) ∷ [])

-- the m rows after row k, the replies to it, to site 0
unfoldable pub from_each : ℕ → ℕ → List Command
from_each k zero = []
from_each k (suc m) = from_each k m ++ (row_to (k + suc m) 0 ∷ [])

-- all of a command's deliveries, then all of its replies
unfoldable pub replies_after : ℕ → ℕ → List Command
replies_after k m = to_each k m ++ from_each k m

-- each reply at once
unfoldable pub replies_at_once : ℕ → ℕ → List Command
replies_at_once k zero = []
replies_at_once k (suc m) = replies_at_once k m ++ (row_to k (suc m) ∷ row_to (k + suc m) 0 ∷ [])

-- what makes site 0 send its command, row k; then that row and the m replies to it, in one of these orders
unfoldable pub exchange : (ℕ → ℕ → List Command) → Command → ℕ → ℕ → List Command
exchange order opening k m = opening ∷ order k m

-- the whole day among n sites: prepares and votes, joins and in-group replies, outcomes and acks. Rows 0, n and 2n are the commands
unfoldable pub quiet_in : (ℕ → ℕ → List Command) → ℕ → List Command
quiet_in order n =
    exchange order Command·.Start 0 (n - 1) ++ exchange order waited n (n - 1) ++ exchange order waited (2 * n) (n - 1)

-- THE QUIET DAY, with the replies after all deliveries
unfoldable pub quiet : ℕ → List Command
quiet n = quiet_in replies_after n
