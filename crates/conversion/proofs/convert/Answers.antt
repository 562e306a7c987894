use native.Mathlib.Omega.{arith}
use Rattle.std.proofs.Common.{rules, sym, ◌∙◌}
use Rattle.std.proofs.lemmas.Result.{err_from_is_err_and}
use Rattle.refusals.specs.laws.RefusalLaws.{number-some}
use Rattle.text.specs.laws.PageLaws.{put_whole}
use Rattle.spelling.specs.WriteRead.{refuse}
use Rattle.conversion.specs.laws.ConversionLaws.{convert-refused, convert-short, convert-done, converts}
use Rattle.conversion.proofs.convert.Goals as goal

pub returns-in_err-check_conversion : goal.returns-in_err-check_conversion
unfolding refuse
returns-in_err-check_conversion c =
    let p = err_from_is_err_and c.from_residual.result c.from_residual.ensures.1 in
    let number = c.in_err-check_conversion.ensures in
    let e = convert-refused c.args.list.now c.args.buffer.now (λ z. number-some _ (number ∙ z)) in
    record { value = rw (p.1, p.2, e, ← number); buffer_after = rw e; length_in_bounds = rw (p.1, p.2) (omega arith, omega arith) }

pub converted_length-length-requires : goal.converted_length-length-requires
converted_length-length-requires c = (converts _ (sym c.in_ok-check_conversion.ensures)).carries

pub returns-then-buffer-length : goal.returns-then-buffer-length
unfolding refuse
returns-then-buffer-length c =
    let e = convert-short c.args.list.now c.args.buffer.now (sym c.in_ok-check_conversion.ensures) (rw c.converted_length-length.ensures at c.if-buffer-length.true) in
    record { value = rw (e, c.into.ensures); buffer_after = rw e; length_in_bounds = rw c.into.ensures (omega arith, omega arith) }

pub put_converted-requires : goal.put_converted-requires
put_converted-requires c = (
  (converts _ (sym c.in_ok-check_conversion.ensures)).carries,
  rw (c.new.ensures.place, c.new.ensures.bytes, ← c.converted_length-length.ensures) (omega arith),
)

pub returns : goal.returns
returns c =
    let long = c.converted_length-length.ensures in
    let room = rw long at c.if-buffer-length.false in
    let w = put_whole c.put_converted.ensures c.new.ensures.bytes c.new.ensures.place in
    let e = convert-done c.args.list.now c.args.buffer.now (sym c.in_ok-check_conversion.ensures) _ _ room w in
    record { value = rw (e, long); buffer_after = rw e (search rules); length_in_bounds = (rw long room, omega arith) }
