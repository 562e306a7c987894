use Rattle.std.proofs.Common.{◌≡◌, ℕ, ◌%◌, ◌<◌, get_or}
use Rattle.layout.specs.Numbers.{shifted}
use Rattle.encode.proofs.put_number.Given as goal

abbrev pub invariant-loop-byte : goal.invariant-loop-byte
invariant-loop-byte l =
    record { left : l.rest ≡ shifted l.byte-index l.number; low : (i : ℕ) → i < l.byte-index → get_or l.byte-items i 0 ≡ shifted i l.number % 256 }
