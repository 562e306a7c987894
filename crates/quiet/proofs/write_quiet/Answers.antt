use native.Mathlib.Omega.{arith}
use Rattle.std.proofs.Common.{rules, sym, ◌∙◌}
use Rattle.std.proofs.lemmas.Result.{err_from_is_err_and}
use Rattle.refusals.specs.laws.RefusalLaws.{number-some}
use Rattle.text.specs.laws.PageLaws.{put_whole}
use Rattle.spelling.specs.WriteRead.{refuse}
use Rattle.quiet.specs.laws.QuietLaws.{quiet-number, quiet-sized, quiet_in-range, quiet_many, quiet-refused, quiet-room, quiet-done}
use Rattle.quiet.proofs.write_quiet.Goals as goal

pub returns-then-n-gt-SITES : goal.returns-then-n-gt-SITES
unfolding refuse
returns-then-n-gt-SITES c =
    let e = quiet_many c.args.n c.args.commit c.args.abort c.args.buffer.now c.if-n-gt-SITES.true in
    record { value = rw (e, c.into.ensures); buffer_after = rw e }

pub returns-in_err-check : goal.returns-in_err-check
unfolding refuse
returns-in_err-check c =
    let a = c.args in
    let p = err_from_is_err_and c.from_residual.result c.from_residual.ensures.1 in
    let number = quiet-number a.n a.commit a.abort _ _ _ c.in_err-check.ensures c.even_weights.ensures c.every_site.ensures in
    let e = quiet-refused a.n a.commit a.abort a.buffer.now (λ z. number-some _ (number ∙ z)) in
    record { value = rw (p.1, p.2, e, ← number); buffer_after = rw e }

pub overflow_sub-length : goal.overflow_sub-length
overflow_sub-length c =
    let a = c.args in
    let good = sym (quiet-number a.n a.commit a.abort _ _ _ c.in_ok-check.ensures c.even_weights.ensures c.every_site.ensures) in
    omega (arith, (quiet-sized a.n a.commit a.abort good).low)

pub returns-then-buffer-length : goal.returns-then-buffer-length
unfolding refuse
returns-then-buffer-length c =
    let a = c.args in
    let good = sym (quiet-number a.n a.commit a.abort _ _ _ c.in_ok-check.ensures c.even_weights.ensures c.every_site.ensures) in
    let e = quiet-room a.n a.commit a.abort a.buffer.now good c.if-buffer-length.true in
    record { value = rw (e, c.into-then-buffer-length.ensures); buffer_after = rw e }

pub put_quiet-requires : goal.put_quiet-requires
put_quiet-requires c =
    let a = c.args in
    let good = sym (quiet-number a.n a.commit a.abort _ _ _ c.in_ok-check.ensures c.even_weights.ensures c.every_site.ensures) in
    let z = quiet-sized a.n a.commit a.abort good in
    (omega (arith, z.low), z.high, quiet_in-range a.n a.commit a.abort good, rw (c.new.ensures.place, c.new.ensures.bytes) (omega arith))

pub returns : goal.returns
returns c =
    let a = c.args in
    let good = sym (quiet-number a.n a.commit a.abort _ _ _ c.in_ok-check.ensures c.even_weights.ensures c.every_site.ensures) in
    let w = put_whole c.put_quiet.ensures c.new.ensures.bytes c.new.ensures.place in
    let e = quiet-done a.n a.commit a.abort a.buffer.now good _ _ c.if-buffer-length.false w in
    record { value = rw e; buffer_after = rw e (search rules) }
