use Rattle.std.proofs.Common.{rules}
use Rattle.round_trip.proofs.laws.Rooms.{room-enough}
use Rattle.to_lines.proofs.write.Goals as goal

pub returns : goal.returns
returns c = record { value = c.write_lines.ensures.value; text_after = c.write_lines.ensures.buffer_after; length_in_bounds = (c.write_lines.ensures.length_in_bounds.0, c.write_lines.ensures.length_in_bounds.1, rw c.write_lines.ensures.value ((room-enough c.args.list.now c.args.text.now (λ i. search rules)).0 c.requires)) }
