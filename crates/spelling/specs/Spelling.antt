-- The two spellings of a header and of a command: a line of text, and bytes of a list (request (iii)).
-- A line has decimal numbers without leading noughts, one blank between words, and a line feed at its end.
use Rattle.std.specs.Prelude.{ℕ, ◌/◌, ◌%◌, List, [], ◌∷◌, ◌++◌}
use Rattle.text.specs.Text.{text, named}
use Rattle.command.specs.declared.Command.{Command}
use Rattle.command.specs.declared.Command.TheVariants as Command·
use Rattle.header.specs.declared.Header.{Header}

-- the first line: `sites N commit N abort N willing N`
unfoldable pub header_line : Header → List ℕ
header_line h =
    named "sites " h.n ++ named " commit " h.commit.0 ++ named " abort " h.abort.0
    ++ named " willing " h.willing ++ text "\n"

-- one line a command: `start`, `deliver ROW SITE`, `timeout SITE`, `crash SITE`, `recover SITE`
unfoldable pub command_line : Command → List ℕ
command_line Command·.Start = text "start\n"
command_line (Command·.Deliver d) = named "deliver " d.row ++ named " " d.site ++ text "\n"
command_line (Command·.Timeout t) = named "timeout " t.site ++ text "\n"
command_line (Command·.Crash t) = named "crash " t.site ++ text "\n"
command_line (Command·.Recover t) = named "recover " t.site ++ text "\n"

-- a header's bytes: n, C, A, the willing sites low byte first
unfoldable pub header_bytes : Header → List ℕ
header_bytes h = h.n ∷ h.commit.0 ∷ h.abort.0 ∷ h.willing % 256 ∷ h.willing / 256 ∷ []

-- a command's bytes, the row number low byte first
unfoldable pub command_bytes : Command → List ℕ
command_bytes Command·.Start = 1 ∷ []
command_bytes (Command·.Deliver d) = 2 ∷ d.row % 256 ∷ d.row / 256 ∷ d.site ∷ []
command_bytes (Command·.Timeout t) = 3 ∷ t.site ∷ []
command_bytes (Command·.Crash t) = 4 ∷ t.site ∷ []
command_bytes (Command·.Recover t) = 5 ∷ t.site ∷ []
