-- What a header and commands in range are spelled with are bytes.
use Rattle.std.specs.Prelude.{ℕ, zero, suc, ◌<◌, List, [], ◌∷◌, ◌++◌}
use Rattle.std.proofs.Common.{arith}
use Rattle.command.specs.declared.Command.{Command}
use Rattle.command.specs.declared.Command.TheVariants as Command·
use Rattle.header.specs.declared.Header.{Header}
use Rattle.spelling.specs.Spelling.{header_bytes, command_bytes}
use Rattle.spelling.specs.Ranges.{HeaderInRange, InRange, AllInRange}
use Rattle.spelling.specs.Script.{spelled_by}
use Rattle.spelling.specs.WriteRead.{bytes_of}
use Rattle.round_trip.specs.Claims.{Bytes}

-- bytes, one by one
abbrev AllBytes : List ℕ → Type 0
AllBytes [] = Unit
AllBytes (b ∷ s) = (b < 256) × AllBytes s

bytes-join : (s t : List ℕ) → AllBytes s → AllBytes t → AllBytes (s ++ t)
bytes-join [] t p q = q
bytes-join (b ∷ s) t p q = (p.0, bytes-join s t p.1 q)

all-bytes : (s : List ℕ) → AllBytes s → Bytes s
all-bytes [] p i = omega arith
all-bytes (b ∷ s) p zero = p.0
all-bytes (b ∷ s) p (suc i) = all-bytes s p.1 i

header_bytes_lem : (h : Header) → HeaderInRange h → AllBytes (header_bytes h)
unfolding header_bytes
header_bytes_lem h ok = omega arith

command_bytes_lem : (c : Command) → InRange c → AllBytes (command_bytes c)
unfolding command_bytes InRange
command_bytes_lem Command·.Start ok = omega arith
command_bytes_lem (Command·.Deliver d) ok = omega arith
command_bytes_lem (Command·.Timeout t) ok = omega arith
command_bytes_lem (Command·.Crash t) ok = omega arith
command_bytes_lem (Command·.Recover t) ok = omega arith

commands-bytes : (commands : List Command) → AllInRange commands → AllBytes (spelled_by command_bytes commands)
unfolding spelled_by
commands-bytes [] ok = tt
commands-bytes (c ∷ commands) (AllInRange.more low ok) =
    bytes-join (command_bytes c) (spelled_by command_bytes commands) (command_bytes_lem c low) (commands-bytes commands ok)

pub spelled_bytes : (h : Header) (commands : List Command) → HeaderInRange h → AllInRange commands → Bytes (bytes_of h commands)
unfolding bytes_of
spelled_bytes h commands head ok =
    all-bytes (bytes_of h commands)
    (bytes-join (header_bytes h) (spelled_by command_bytes commands) (header_bytes_lem h head) (commands-bytes commands ok))
