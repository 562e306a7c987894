use native.Mathlib.Omega.{arith}
use Rattle.std.proofs.Common.{rules, ◌≤◌, length, sym, ap, ◌∙◌}
use Rattle.std.proofs.lemmas.Result.{err_from_is_err_and}
use Rattle.refusals.specs.laws.RefusalLaws.{number-some}
use Rattle.text.specs.laws.PageLaws.{put_whole}
use Rattle.spelling.specs.WriteRead.{refuse}
use Rattle.spelling.specs.laws.Measured.{Whole, whole}
use Rattle.write_lines.specs.laws.WriteLaws.{text_of, measured, write-inside, write-header, write-stopped, write-room, write_done}
use Rattle.write_lines.proofs.write_lines.Goals as goal

pub returns-in_err-header : goal.returns-in_err-header
unfolding refuse
returns-in_err-header c =
    let p = err_from_is_err_and c.from_residual.result c.from_residual.ensures.1 in
    let number = c.in_err-header.ensures.number in
    let e = write-header c.args.list.now c.args.buffer.now (λ z. number-some _ (number ∙ z)) in
    record { value = rw (p.1, p.2, e, ← number); buffer_after = rw e; length_in_bounds = rw (p.1, p.2) (omega arith, omega arith) }

pub measure-requires : goal.measure-requires
measure-requires c = (c.in_ok-header.ensures.ok, sym c.in_ok-header.ensures.number)

pub returns-in_err-spelled : goal.returns-in_err-spelled
returns-in_err-spelled c =
    let p = err_from_is_err_and c.from_residual-in_err-spelled.result c.from_residual-in_err-spelled.ensures.1 in
    let measure = c.in_err-spelled.ensures in
    let e = write-stopped c.args.list.now c.args.buffer.now (sym c.in_ok-header.ensures.number) (λ z. number-some _ (ap (λ m. m.number) measure ∙ z)) in
    let same = measure ∙ sym (ap (λ o. o.answer) e) in
    record {
      value = rw (p.1, p.2) same;
      buffer_after = rw e;
      length_in_bounds = rw (p.1, p.2) (omega arith, omega (arith, ap (λ m. m.place) same, write-inside c.args.list.now (λ i. (c.type_inv.list i).fits) c.args.buffer.now));
    }

pub returns-then-buffer-spelled : goal.returns-then-buffer-spelled
unfolding refuse
returns-then-buffer-spelled c =
    let measure = c.in_ok-spelled.ensures in
    let e = write-room c.args.list.now c.args.buffer.now (sym c.in_ok-header.ensures.number) (sym (ap (λ m. m.number) measure)) (omega (arith, ap (λ m. m.length) measure, c.if-buffer-spelled.true)) in
    record { value = rw (e, c.into.ensures); buffer_after = rw e; length_in_bounds = rw c.into.ensures (omega arith, omega arith) }

pub put_lines-requires : goal.put_lines-requires
unfolding measured text_of
put_lines-requires c =
    let measure = c.in_ok-spelled.ensures in
    let w : Whole _ _ _ = whole _ _ _ (sym (ap (λ m. m.number) measure)) in (
      c.in_ok-header.ensures.ok,
      rw (c.new.ensures.place, c.new.ensures.bytes) (omega (arith, ap (λ m. m.length) measure, ap (λ m. m.length) w.same, c.if-buffer-spelled.false)),
    )

pub returns : goal.returns
unfolding text_of
returns c =
    let measure = c.in_ok-spelled.ensures in
    let w = put_whole c.put_lines.ensures c.new.ensures.bytes c.new.ensures.place in
    let room : (measured c.args.list.now).length ≤ length c.args.buffer.now = omega (arith, ap (λ m. m.length) measure, c.if-buffer-spelled.false) in
    let e = write_done c.args.list.now c.args.buffer.now (sym c.in_ok-header.ensures.number) (sym (ap (λ m. m.number) measure)) _ _ room w in
    let same = measure ∙ sym (ap (λ o. o.answer) e) in
    record {
      value = same;
      buffer_after = rw e (search rules);
      length_in_bounds = (c.if-buffer-spelled.false, omega (arith, ap (λ m. m.place) same, write-inside c.args.list.now (λ i. (c.type_inv.list i).fits) c.args.buffer.now));
    }
