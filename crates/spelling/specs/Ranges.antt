-- The numbers that both spellings can show: the willing sites and row numbers to 65,535, all others to 255.
use Rattle.std.specs.Prelude.{◌<◌, List, [], ◌∷◌}
use Rattle.command.specs.declared.Command.{Command}
use Rattle.command.specs.declared.Command.TheVariants as Command·
use Rattle.header.specs.declared.Header.{Header}

pub record HeaderInRange (h : Header) : Type 0 where
  pub sites : h.n < 256
  pub commit : h.commit.0 < 256
  pub abort : h.abort.0 < 256
  pub willing : h.willing < 65536

unfoldable pub InRange : Command → Type 0
InRange Command·.Start = Unit
InRange (Command·.Deliver d) = (d.row < 65536) × (d.site < 256)
InRange (Command·.Timeout t) = t.site < 256
InRange (Command·.Crash t) = t.site < 256
InRange (Command·.Recover t) = t.site < 256

-- commands that both spellings can show
pub data AllInRange : List Command → Type 0 where
  none : AllInRange []
  more : {c : Command} {commands : List Command} → InRange c → AllInRange commands → AllInRange (c ∷ commands)
