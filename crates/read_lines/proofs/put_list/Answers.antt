use native.Mathlib.Omega.{arith}
use mathlib.Core.Path.{refl, sym, ◌∙◌}
use Rattle.spelling.specs.Spelling.{command_bytes}
use Rattle.spelling.specs.Script.{spelled_by}
use Rattle.text.specs.laws.PageLaws.{joined}
use Rattle.spelling.specs.WriteRead.{text_script, bytes_of}
use Rattle.spelling.specs.laws.BytesBack.{list_length}
use Rattle.spelling.specs.laws.LoopLaws.{left_end, left-refused, putting_begins, putting-on, putting-room, putting-page, room_after}
use Rattle.read_lines.specs.laws.ReadLaws.{line_at, text_forward}
use Rattle.read_lines.proofs.put_list.Goals as goal

pub put_header-requires : goal.put_header-requires
put_header-requires c = (c.requires.0, omega (arith, c.requires.2, list_length c.args.header (text_script c.args.text.now c.args.from).commands))

pub loop-at-init : goal.loop-at-init
unfolding text_script
loop-at-init c = (putting_begins command_bytes _ _ (text_forward c.args.text.now) _ _ _, refl)

pub returns-in_default : goal.returns-in_default
unfolding bytes_of
returns-in_default c = joined c.put_header.ensures (putting-page command_bytes _ _ (text_forward c.args.text.now) _ _ c.loop-at.invariant.0 c.loop-at.invariant.1 (left-refused command_bytes _ _ (text_forward c.args.text.now) _ _ c.loop-at-test.true (sym c.read_line.ensures ∙ c.in_default.is)))

pub put_command-requires : goal.put_command-requires
unfolding bytes_of
put_command-requires c = ((line_at c.args.text.now _ _ (omega (arith, c.loop-at-test.true)) (sym c.read_line.ensures ∙ c.in-Ok.is)).in_range, putting-room command_bytes _ _ (text_forward c.args.text.now) _ _ _ _ _ _ c.loop-at.invariant.0 _ c.loop-at-test.true (sym c.read_line.ensures ∙ c.in-Ok.is) (room_after (spelled_by command_bytes (text_script c.args.text.now c.args.from).commands) c.put_header.ensures c.requires.2))

pub loop-at-smaller : goal.loop-at-smaller
loop-at-smaller c = omega (arith, (text_forward c.args.text.now) _ _ c.loop-at-test.true (sym c.read_line.ensures ∙ c.in-Ok.is))

pub loop-at-preserved : goal.loop-at-preserved
loop-at-preserved c = (putting-on command_bytes _ _ (text_forward c.args.text.now) _ _ _ _ _ _ c.loop-at.invariant.0 _ _ _ c.loop-at-test.true (sym c.read_line.ensures ∙ c.in-Ok.is) c.put_command.ensures.written, c.put_command.ensures.same ∙ c.loop-at.invariant.1)

pub returns : goal.returns
unfolding bytes_of
returns c = joined c.put_header.ensures (putting-page command_bytes _ _ (text_forward c.args.text.now) _ _ c.loop-at.invariant.0 c.loop-at.invariant.1 (left_end command_bytes _ _ (text_forward c.args.text.now) _ c.loop-at-test.false))
