-- WHEN EVERYONE IS BACK (request (viii)): three rounds, and in each the sites 0 to n - 1 in turn: TIMEOUT there; its row, if any, delivered to the
-- others in number order, each reply delivered back at once. Which row a command adds depends on the world that it finds: so a command is given, and
-- the world that its call leaves says which is the next.
use Rattle.std.specs.Prelude.{ℕ, zero, suc, List, [], ◌∷◌, ◌++◌, ltb, eqb}
use Rattle.choice.specs.Choice.{pick}
use Rattle.command.specs.declared.Command.{Command}
use Rattle.command.specs.declared.Command.TheVariants as Command·
use Rattle.world.specs.declared.World.{World}
use Rattle.play.specs.Run.{call_of}
use Rattle.quiet.specs.Quiet.{row_to}
use Rattle.quiet_run.specs.Claims.{ask_of}

-- how far the rounds have come: world and store, and the commands given so far, in order
pub record Course : Type 0 where
  pub world : World
  pub store : List ℕ
  pub commands : List Command

unfoldable pub set_out : World → List ℕ → Course
set_out w store = record { world = w; store = store; commands = [] }

-- one more command, as a one-command call
unfoldable pub give : Command → Course → Course
give c t =
    record {
      world = (call_of t.world t.store (ask_of c)).world;
      store = (call_of t.world t.store (ask_of c)).store;
      commands = t.commands ++ (c ∷ []);
    }

-- TIMEOUT at site i
unfoldable pub waited_at : ℕ → Command
waited_at i = Command·.Timeout (record { site = i })

-- the row that was added between, if one was, is handed on
unfoldable pub hand_on : (ℕ → Course → Course) → Course → Course → Course
hand_on next before after = pick (ltb before.world.rows after.world.rows) (next before.world.rows after) after

-- row k is delivered to site j
unfoldable pub deliver_to : ℕ → ℕ → Course → Course
deliver_to j k t = give (row_to k j) t

-- row k, which is site i's, is delivered to site j, if that is another, and the reply is delivered back to site i at once
unfoldable pub visit : ℕ → ℕ → ℕ → Course → Course
visit i k j t = pick (eqb j i) t (hand_on (deliver_to i) t (deliver_to j k t))

-- so to the sites below a number, in number order
unfoldable pub visits : ℕ → ℕ → ℕ → Course → Course
visits i k zero t = t
visits i k (suc j) t = visit i k j (visits i k j t)

-- a site's turn
unfoldable pub turn : ℕ → Course → Course
turn i t = hand_on (λ k. visits i k t.world.n) t (give (waited_at i) t)

-- the turns of the sites below a number
unfoldable pub turns : ℕ → Course → Course
turns zero t = t
turns (suc i) t = turn i (turns i t)

-- a round
unfoldable pub in_turn : Course → Course
in_turn t = turns t.world.n t

-- so many rounds
unfoldable pub rounds : ℕ → Course → Course
rounds zero t = t
rounds (suc k) t = in_turn (rounds k t)

-- THE SCHEDULE, from a world and a store
unfoldable pub three_rounds : World → List ℕ → Course
three_rounds w store = rounds 3 (set_out w store)
