-- What a reader of a line is handed to make the command.
use Rattle.std.specs.Prelude.{◌≡◌}
use Rattle.command.specs.declared.Target.{Target}
use Rattle.command.specs.declared.Command.{Command}

-- what is called with a target makes this command of it
abbrev pub Makes : (Target → Command → Type 0) → (Target → Command) → Type 0
Makes post make = (t : Target) (c : Command) → post t c → c ≡ make t
