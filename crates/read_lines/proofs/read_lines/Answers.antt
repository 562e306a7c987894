use native.Mathlib.Omega.{arith}
use mathlib.Core.Path.{sym, ◌∙◌}
use Rattle.spelling.specs.WriteRead.{refuse}
use Rattle.spelling.specs.laws.LineBack.{header_line_spelt, header_line-longer}
use Rattle.read_lines.specs.laws.ReadLaws.{lines_missing, lines-found}
use Rattle.read_lines.proofs.read_lines.Goals as goal

pub returns-in_default : goal.returns-in_default
unfolding refuse
returns-in_default c =
    let e = lines_missing c.args.text.now c.args.buffer.now (sym c.read_header_line.ensures ∙ c.in_default.is) in
    record { value = rw (e, c.into.ensures); buffer_after = rw e; length_in_bounds = rw c.into.ensures (omega arith, omega arith) }

pub read_commands-requires : goal.read_commands-requires
read_commands-requires c =
    let l = header_line_spelt _ _ (sym c.read_header_line.ensures ∙ c.in-Some.is) in
    (l.in_range, omega (arith, l.next-is, header_line-longer c.in-Some.line.header), l.inside)

pub returns : goal.returns
returns c =
    let e = lines-found c.args.text.now c.args.buffer.now _ (sym c.read_header_line.ensures ∙ c.in-Some.is) in
    record {
      value = rw e c.read_commands.ensures.value;
      buffer_after = rw e c.read_commands.ensures.buffer_after;
      length_in_bounds = c.read_commands.ensures.length_in_bounds;
    }
