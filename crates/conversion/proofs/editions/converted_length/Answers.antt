use native.Mathlib.Omega.{arith}
use mathlib.Core.Path.{sym, ap, ◌∙◌}
use Rattle.header.specs.laws.HeaderLaws.{headed}
use Rattle.conversion.specs.laws.ConversionLaws.{carried, carried-whole, carried-sized, back-length, forward_length}
use Rattle.conversion.proofs.editions.converted_length.Goals as goal

pub overflow_sub-after : goal.overflow_sub-after
overflow_sub-after c = omega (arith, c.header_length.ensures, carried-whole c.args.list.now c.requires)

pub returns-then-is_second : goal.returns-then-is_second
returns-then-is_second c = rw c.header_length.ensures (sym (back-length _ (sym c.is_second.ensures ∙ c.if-is_second.true)))

pub overflow_add-result-2 : goal.overflow_add-result-2
overflow_add-result-2 c = let list = c.args.list.now in
    omega (arith, ap (λ h. h.n) c.read_header.ensures, (carried-sized list c.requires).high)

pub overflow_add-result-3 : goal.overflow_add-result-3
overflow_add-result-3 c = let list = c.args.list.now in
    let e = c.requires in
    omega (arith, ap (λ h. h.n) c.read_header.ensures, (carried-sized list e).high, (headed list (carried list e).accepted).small)

pub returns : goal.returns
returns c = rw (c.header_length.ensures, c.read_header.ensures)
    (sym (forward_length _ (sym c.is_second.ensures ∙ c.if-is_second.false)))
