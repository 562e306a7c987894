use Rattle.std.proofs.Common.{rules}
use Rattle.conversion.specs.Conversion.{convert}
use Rattle.line_calls.specs.laws.LineCallLaws.{lines_answered}
use Rattle.line_calls.proofs.convert_call.Goals as goal

pub returns : goal.returns
returns c =
    let (number, buffer, left) = lines_answered (convert c.args.list.now) c.args.buffer.now c.args.res.now _ _ _ (c.answered.ensures.0, λ same. let (answer, did, gives, leaves) = c.answered.ensures.1 same in (answer, search rules, gives, leaves)) in
    record { value = number; buffer_after = buffer; res_after = left }
