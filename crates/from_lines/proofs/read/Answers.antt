use native.Mathlib.Omega.{arith}
use lib.ListN.{length}
use borrow.Author.Tests.{lt-ltb, le-ltb}
use Rattle.spelling.specs.WriteRead.{refuse}
use Rattle.round_trip.proofs.laws.Rooms.{room-enough}
use Rattle.from_lines.specs.FromLines.{from_lines}
use borrow.Author.Rules.{rules}
use Rattle.from_lines.proofs.read.Goals as goal

pub returns-then-text-gt-LONGEST : goal.returns-then-text-gt-LONGEST
unfolding from_lines refuse
returns-then-text-gt-LONGEST c = record { value = simp (lt-ltb 262144 (length c.args.text.now) c.if-text-gt-LONGEST.true, c.into.ensures); list_after = simp (lt-ltb 262144 (length c.args.text.now) c.if-text-gt-LONGEST.true); length_in_bounds = rw c.into.ensures (omega arith, omega arith, λ e. omega arith) }

pub returns : goal.returns
unfolding from_lines
returns c = record { value = simp (le-ltb 262144 (length c.args.text.now) c.if-text-gt-LONGEST.false) c.read_lines.ensures.value; list_after = simp (le-ltb 262144 (length c.args.text.now) c.if-text-gt-LONGEST.false) c.read_lines.ensures.buffer_after; length_in_bounds = (c.read_lines.ensures.length_in_bounds.0, omega (arith, c.read_lines.ensures.length_in_bounds.1), rw c.read_lines.ensures.value ((room-enough c.args.text.now c.args.list.now (λ i. search rules)).1 c.requires)) }
