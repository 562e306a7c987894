-- What the program makes of its input: a text of more than 262,144 bytes is not read on, and is refused as its list would be.
use Rattle.std.specs.Prelude.{ℕ, List, ltb, length}
use Rattle.choice.specs.Choice.{pick}
use Rattle.spelling.specs.WriteRead.{Output, refuse, read_lines}

-- the longest text that is read
abbrev pub longest_read : ℕ
longest_read = 262144

unfoldable pub from_lines : List ℕ → List ℕ → Output
from_lines s buffer = pick (ltb longest_read (length s)) (refuse 1 0 buffer) (read_lines s buffer)
