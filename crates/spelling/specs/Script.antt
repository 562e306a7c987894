-- Commands one after the other, whichever way they are spelled.
use Rattle.std.specs.Prelude.{ℕ, zero, suc, List, [], ◌∷◌, ◌++◌, ltb}
use Rattle.choice.specs.Choice.{pick}
use Rattle.refusals.specs.Refusals.{number_of}
use Rattle.command.specs.declared.Command.{Command}
use Rattle.command.specs.Readings.{Reading}
use Rattle.std.specs.Prelude.{Ok, Err}

-- the commands read, and how the reading ended: number 0 at the end, or a refusal's number, with the place
pub record Script : Type 0 where
  pub number : ℕ
  pub place : ℕ
  pub commands : List Command

unfoldable pub stop : ℕ → ℕ → Script
stop number place = record { number = number; place = place; commands = [] }

unfoldable pub first : Command → Script → Script
first command s = record { number = s.number; place = s.place; commands = command ∷ s.commands }

-- after one reading: its command and the others, or its refusal
abbrev pub read_on : Reading → (ℕ → Script) → Script
read_on (Err r) others = stop (number_of r.reason) r.place
read_on (Ok p) others = first p.command (others p.next)

-- from a place on, to the end or the first refusal; `fuel` bounds the commands that are left, and is never met (`enough`)
unfoldable pub script_from : ℕ → (ℕ → Reading) → ℕ → ℕ → Script
script_from zero read end at = stop 0 at
script_from (suc fuel) read end at =
    pick (ltb at end) (read_on (read at) (λ next. script_from fuel read end next)) (stop 0 at)

-- commands spelled one after the other
unfoldable pub spelled_by : (Command → List ℕ) → List Command → List ℕ
spelled_by spell [] = []
spelled_by spell (c ∷ cs) = spell c ++ spelled_by spell cs
