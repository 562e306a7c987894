-- What is claimed of every history of a network. The proof is in laws/; this file and the definitions below it are to be believed.
use Rattle.std.specs.Prelude.{List}
use Rattle.history.specs.Safe.{Safe}
use Rattle.history.specs.Network.{Competition, Told, fresh_network, IsHistory, pass}

-- THE CORE: demand 3 over every history, of whatever length, of whatever sizes
abbrev pub NetworkSafe : Type 0
NetworkSafe =
    (z : Competition) (steps : List Told) → IsHistory z fresh_network steps →
    Safe z.n z.willing (pass z fresh_network steps).records
