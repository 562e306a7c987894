use native.Mathlib.Omega.{arith}
use Rattle.std.proofs.Common.{rules, ◌≤◌, length, sym, ap, ◌∙◌}
use Rattle.std.proofs.lemmas.Result.{err_from_is_err_and}
use Rattle.refusals.specs.laws.RefusalLaws.{number-some}
use Rattle.text.specs.laws.PageLaws.{put_whole}
use Rattle.spelling.specs.WriteRead.{refuse, spelled_number}
use Rattle.read_lines.specs.laws.ReadLaws.{measured, measured-length, read-inside, read-stopped, read_number, read-room, read_done}
use Rattle.read_lines.proofs.read_commands.Goals as goal

pub returns-in_err-spelled : goal.returns-in_err-spelled
returns-in_err-spelled c =
    let p = err_from_is_err_and c.from_residual.result c.from_residual.ensures.1 in
    let measure = c.in_err-spelled.ensures in
    let e = read-stopped c.args.text.now c.args.header c.args.from c.args.buffer.now (λ z. number-some _ (ap (λ m. m.number) measure ∙ z)) in
    let same = measure ∙ sym (ap (λ o. o.answer) e) in
    record {
      value = rw (p.1, p.2) same;
      buffer_after = rw e;
      length_in_bounds = rw (p.1, p.2) (omega arith, omega (arith, ap (λ m. m.place) same, read-inside c.args.text.now c.args.header c.args.from c.args.buffer.now c.requires.2));
    }

pub returns-in_err-check_list : goal.returns-in_err-check_list
unfolding refuse
returns-in_err-check_list c =
    let p = err_from_is_err_and c.from_residual-in_err-check_list.result c.from_residual-in_err-check_list.ensures.1 in
    let measure = c.in_ok-spelled.ensures in
    let number = c.in_err-check_list.ensures ∙ ap (λ m. spelled_number c.args.header m.length) measure in
    let e = read_number c.args.text.now c.args.header c.args.from c.args.buffer.now (sym (ap (λ m. m.number) measure)) (λ z. number-some _ (number ∙ z)) in
    record { value = rw (p.1, p.2, e, ← number); buffer_after = rw e; length_in_bounds = rw (p.1, p.2) (omega arith, omega arith) }

pub returns-then-buffer-spelled : goal.returns-then-buffer-spelled
unfolding refuse
returns-then-buffer-spelled c =
    let measure = c.in_ok-spelled.ensures in
    let none = sym (c.in_ok-check_list.ensures ∙ ap (λ m. spelled_number c.args.header m.length) measure) in
    let e = read-room c.args.text.now c.args.header c.args.from c.args.buffer.now (sym (ap (λ m. m.number) measure)) none (omega (arith, ap (λ m. m.length) measure, c.if-buffer-spelled.true)) in
    record { value = rw (e, c.into.ensures); buffer_after = rw e; length_in_bounds = rw c.into.ensures (omega arith, omega arith) }

pub put_list-requires : goal.put_list-requires
put_list-requires c =
    let measure = c.in_ok-spelled.ensures in
    let long = measured-length c.args.text.now c.args.header c.args.from c.args.buffer.now (sym (ap (λ m. m.number) measure)) in
    (c.requires.0, c.requires.2, rw (c.new.ensures.place, c.new.ensures.bytes) (omega (arith, long, ap (λ m. m.length) measure, c.if-buffer-spelled.false)))

pub returns : goal.returns
returns c =
    let measure = c.in_ok-spelled.ensures in
    let w = put_whole c.put_list.ensures c.new.ensures.bytes c.new.ensures.place in
    let none = sym (c.in_ok-check_list.ensures ∙ ap (λ m. spelled_number c.args.header m.length) measure) in
    let room : (measured c.args.text.now c.args.from).length ≤ length c.args.buffer.now = omega (arith, ap (λ m. m.length) measure, c.if-buffer-spelled.false) in
    let e = read_done c.args.text.now c.args.header c.args.from c.args.buffer.now (sym (ap (λ m. m.number) measure)) none _ _ room w in
    let same = measure ∙ sym (ap (λ o. o.answer) e) in
    record {
      value = same;
      buffer_after = rw e (search rules);
      length_in_bounds = (c.if-buffer-spelled.false, omega (arith, ap (λ m. m.place) same, read-inside c.args.text.now c.args.header c.args.from c.args.buffer.now c.requires.2));
    }
