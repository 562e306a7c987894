-- A list of one-command calls: each gets the world that the call before it returned and the store as that call left it.
use Rattle.std.specs.Prelude.{ℕ, ◌+◌, List, [], ◌∷◌, ◌++◌}
use Rattle.site.specs.Records.{Written}
use Rattle.world.specs.declared.World.{World}
use Rattle.play.specs.Calls.{Call}
use Rattle.play.specs.Commands.{one_command}

-- what one call is asked besides world and store: a list and a place in it
pub record Ask : Type 0 where
  pub list : List ℕ
  pub place : ℕ

-- world and store after the calls, all records written over them, in order, and the sum of their news: a refused call has none
pub record Ran : Type 0 where
  pub world : World
  pub store : List ℕ
  pub records : List Written
  pub news : ℕ

-- one call
unfoldable pub call_of : World → List ℕ → Ask → Call
call_of w store a = one_command w store a.list a.place

-- a call's records put before those of the calls after it, and its news added to theirs
unfoldable pub after_call : Call → Ran → Ran
after_call c r =
    record { world = r.world; store = r.store; records = c.records ++ r.records; news = c.news + r.news }

unfoldable pub run : World → List ℕ → List Ask → Ran
run w store [] = record { world = w; store = store; records = []; news = 0 }
run w store (a ∷ asks) =
    after_call (call_of w store a) (run (call_of w store a).world (call_of w store a).store asks)
