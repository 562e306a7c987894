use native.Mathlib.Omega.{arith}
use mathlib.Core.Path.{refl, sym, ◌∙◌}
use lib.ListN.{length-append}
use Rattle.text.specs.laws.PageLaws.{joined}
use Rattle.header.specs.Headers.{first_header}
use Rattle.spelling.specs.Spelling.{header_line, command_line}
use Rattle.spelling.specs.Script.{spelled_by}
use Rattle.spelling.specs.WriteRead.{list_script, lines_of}
use Rattle.spelling.specs.laws.BytesBack.{header_in_range}
use Rattle.spelling.specs.laws.LoopLaws.{left_end, left-refused, putting_begins, putting-on, putting-room, putting-page, room_after}
use Rattle.write_lines.specs.laws.WriteLaws.{command-at, list_forward}
use Rattle.write_lines.proofs.put_lines.Goals as goal

pub put_header_line-requires : goal.put_header_line-requires
unfolding lines_of
put_header_line-requires c = rw c.requires.0 (header_in_range c.args.list.now (λ i. (c.type_inv.list i).fits), omega (arith, c.requires.1, length-append (header_line (first_header c.args.list.now)) (spelled_by command_line (list_script c.args.list.now).commands)))

pub loop-at-init : goal.loop-at-init
unfolding list_script
loop-at-init c = (putting_begins command_line _ _ (list_forward c.args.list.now (λ i. (c.type_inv.list i).fits)) 5 _ _, refl)

pub returns-in_default : goal.returns-in_default
unfolding lines_of
returns-in_default c = joined (rw c.requires.0 at c.put_header_line.ensures) (putting-page command_line _ _ (list_forward c.args.list.now (λ i. (c.type_inv.list i).fits)) _ _ c.loop-at.invariant.0 c.loop-at.invariant.1 (left-refused command_line _ _ (list_forward c.args.list.now (λ i. (c.type_inv.list i).fits)) _ _ c.loop-at-test.true (sym c.read_command.ensures.0 ∙ c.in_default.is)))

pub put_line-requires : goal.put_line-requires
unfolding lines_of
put_line-requires c = ((command-at c.args.list.now (λ i. (c.type_inv.list i).fits) _ _ (sym c.read_command.ensures.0 ∙ c.in-Ok.is)).in_range, putting-room command_line _ _ (list_forward c.args.list.now (λ i. (c.type_inv.list i).fits)) _ _ _ _ _ _ c.loop-at.invariant.0 _ c.loop-at-test.true (sym c.read_command.ensures.0 ∙ c.in-Ok.is) (room_after (spelled_by command_line (list_script c.args.list.now).commands) (rw c.requires.0 at c.put_header_line.ensures) c.requires.1))

pub loop-at-smaller : goal.loop-at-smaller
loop-at-smaller c = omega (arith, (list_forward c.args.list.now (λ i. (c.type_inv.list i).fits)) _ _ c.loop-at-test.true (sym c.read_command.ensures.0 ∙ c.in-Ok.is))

pub loop-at-preserved : goal.loop-at-preserved
loop-at-preserved c = (putting-on command_line _ _ (list_forward c.args.list.now (λ i. (c.type_inv.list i).fits)) _ _ _ _ _ _ c.loop-at.invariant.0 _ _ _ c.loop-at-test.true (sym c.read_command.ensures.0 ∙ c.in-Ok.is) c.put_line.ensures.written, c.put_line.ensures.same ∙ c.loop-at.invariant.1)

pub returns : goal.returns
unfolding lines_of
returns c = joined (rw c.requires.0 at c.put_header_line.ensures) (putting-page command_line _ _ (list_forward c.args.list.now (λ i. (c.type_inv.list i).fits)) _ _ c.loop-at.invariant.0 c.loop-at.invariant.1 (left_end command_line _ _ (list_forward c.args.list.now (λ i. (c.type_inv.list i).fits)) _ c.loop-at-test.false))
