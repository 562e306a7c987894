use native.Mathlib.Omega.{arith}
use Rattle.conversion.specs.laws.ConversionLaws.{carried-whole, carried_in_range, converted_length_lem, carried-room, carried-put}
use Rattle.conversion.proofs.editions.put_converted.Goals as goal

pub put_other-requires : goal.put_other-requires
put_other-requires c = let list = c.args.list.now in
    let pre = c.requires in
    (rw c.read_header.ensures (carried_in_range list pre.0), rw (c.is_second.ensures, c.read_header.ensures) (omega (arith, converted_length_lem list, pre.1)))

pub slice_bounds-put_word-count : goal.slice_bounds-put_word-count
slice_bounds-put_word-count c = omega (arith, c.header_length-first.ensures, carried-whole c.args.list.now c.requires.0)

pub slice_bounds-put_word-start : goal.slice_bounds-put_word-start
slice_bounds-put_word-start c = omega (arith, c.header_length-first.ensures, carried-whole c.args.list.now c.requires.0)

pub put_word-requires : goal.put_word-requires
put_word-requires c = carried-room c.args.list.now _ _ _ c.is_second.ensures c.read_header.ensures c.header_length-first.ensures c.put_other.ensures c.requires.1

pub returns : goal.returns
returns c = carried-put c.args.list.now _ _ _ c.is_second.ensures c.read_header.ensures c.header_length-first.ensures c.put_other.ensures c.put_word.ensures
