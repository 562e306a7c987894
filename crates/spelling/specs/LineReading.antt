-- Reading lines.
-- Refusal: 19 a line not in its form, or a number past its range, at the line's first byte.
use Rattle.std.specs.Prelude.{ℕ, ◌+◌, List, Option, Some, None}
use Rattle.choice.specs.Choice.{pick}
use Rattle.text.specs.Text.{text}
use Rattle.scan.specs.declared.Number.{Number}
use Rattle.scan.specs.Scan.{word_at, number_at, named_at, onward}
use Rattle.command.specs.declared.Target.{Target}
use Rattle.command.specs.declared.Command.{Command}
use Rattle.command.specs.declared.Command.TheVariants as Command·
use Rattle.refusals.specs.declared.Reason.TheVariants as Reason·
use Rattle.command.specs.Readings.{Reading}
use Rattle.command.specs.Commands.{found, refused}
use Rattle.spelling.specs.declared.HeaderLine.{HeaderLine}

-- a line that is not in its form
unfoldable pub bad_line : ℕ → Reading
bad_line at = refused Reason·.BadLine at

-- the line feed after a line's last number
unfoldable pub end_line : List ℕ → ℕ → Command → ℕ → Reading
end_line s at command next = pick (word_at (text "\n") s next) (found command (next + 1)) (bad_line at)

-- the rest of a line that ends with a site number
unfoldable pub site_end : (Target → Command) → List ℕ → ℕ → Option Number → Reading
site_end command s at site = onward (bad_line at) site λ k. end_line s at (command (record { site = k.value })) k.next

-- the rest of a line with a row number and then a site number
unfoldable pub row_end : List ℕ → ℕ → Option Number → Reading
row_end s at row =
    onward (bad_line at) row λ r.
    site_end (λ t. Command·.Deliver (record { row = r.value; site = t.site })) s at (named_at (text " ") 255 s r.next)

-- A COMMAND'S LINE at a place: the command, and the place after the line
unfoldable pub read_line : List ℕ → ℕ → Reading
read_line s at =
    pick (word_at (text "start\n") s at) (found Command·.Start (at + 6))
    (pick (word_at (text "deliver ") s at) (row_end s at (number_at 65535 s (at + 8)))
    (pick (word_at (text "timeout ") s at) (site_end Command·.Timeout s at (number_at 255 s (at + 8)))
    (pick (word_at (text "crash ") s at) (site_end Command·.Crash s at (number_at 255 s (at + 6)))
    (pick (word_at (text "recover ") s at) (site_end Command·.Recover s at (number_at 255 s (at + 8)))
    (bad_line at)))))

-- a header of four numbers
unfoldable pub header_numbers : Number → Number → Number → Number → HeaderLine
header_numbers n c a w =
    record {
      header = record { n = n.value; commit = record { 0 = c.value }; abort = record { 0 = a.value }; willing = w.value };
      next = w.next + 1;
    }

-- THE FIRST LINE, at the text's beginning
unfoldable pub read_header_line : List ℕ → Option HeaderLine
read_header_line s =
    onward None (named_at (text "sites ") 255 s 0) λ n.
    onward None (named_at (text " commit ") 255 s n.next) λ c.
    onward None (named_at (text " abort ") 255 s c.next) λ a.
    onward None (named_at (text " willing ") 65535 s a.next) λ w.
    pick (word_at (text "\n") s w.next) (Some (header_numbers n c a w)) None
