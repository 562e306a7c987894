use Rattle.conversion.specs.laws.ConversionLaws.{convert-room}
use Rattle.convert.proofs.carry.Goals as goal

pub returns : goal.returns
returns c = record { value = c.convert.ensures.value; output_after = c.convert.ensures.buffer_after; length_in_bounds = (c.convert.ensures.length_in_bounds.0, c.convert.ensures.length_in_bounds.1, rw c.convert.ensures.value (convert-room c.args.list.now c.args.output.now c.requires)) }
