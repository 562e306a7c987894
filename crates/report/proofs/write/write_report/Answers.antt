use native.Mathlib.Omega.{arith}
use Rattle.std.proofs.Common.{rules, sym, ◌∙◌}
use Rattle.text.specs.laws.PageLaws.{put_whole}
use Rattle.report.specs.Report.{untouched}
use Rattle.report.specs.laws.ReportLaws.{accepted, report-refused, report-short, report-written}
use Rattle.report.proofs.write.write_report.Goals as goal

pub returns-then-not-report_valid : goal.returns-then-not-report_valid
unfolding untouched
returns-then-not-report_valid c =
    let e = report-refused _ _ _ _ c.args.buffer.now (sym (rw c.from-number.ensures at c.report_valid.ensures) ∙ c.if-not-report_valid.true) in
    record { value = rw e; buffer_after = rw e; length_in_bounds = omega arith }

pub returns-then-buffer-lt-REPORT_BYTES : goal.returns-then-buffer-lt-REPORT_BYTES
unfolding untouched
returns-then-buffer-lt-REPORT_BYTES c =
    let valid = sym (rw c.from-number.ensures at c.report_valid.ensures) ∙ c.if-not-report_valid.false in
    let e = report-short _ _ _ _ c.args.buffer.now valid c.if-buffer-lt-REPORT_BYTES.true in
    record { value = rw e; buffer_after = rw e; length_in_bounds = omega arith }

pub put_text-requires : goal.put_text-requires
put_text-requires c =
    (sym c.report_valid.ensures ∙ c.if-not-report_valid.false, rw (c.new-page.ensures.place, c.new-page.ensures.bytes) (omega arith))

pub returns : goal.returns
unfolding accepted
returns c =
    let valid = sym (rw c.from-number.ensures at c.report_valid.ensures) ∙ c.if-not-report_valid.false in
    let w = put_whole (rw c.from-number.ensures at c.put_text.ensures.put) c.new-page.ensures.bytes c.new-page.ensures.place in
    let e = report-written _ _ _ _ c.args.buffer.now _ _ valid (omega arith) w in
    record {
      value = rw e;
      buffer_after = rw e (search rules);
      length_in_bounds = omega (arith, c.put_text.ensures.upper_bound, c.new-page.ensures.place);
    }
