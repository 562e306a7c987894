use native.Mathlib.Omega.{arith}
use Rattle.text.specs.laws.PageLaws.{joined}
use Rattle.report.specs.Report.{report_text}
use Rattle.report.specs.laws.ReportLaws.{ReportParts, report_parts}
use Rattle.report.proofs.write.put_text.Goals as goal

pub put_sizes-requires : goal.put_sizes-requires
put_sizes-requires c = let p : ReportParts _ _ _ _ = report_parts _ _ _ _ c.requires.0 in (p.world, omega arith, omega arith)

pub put_sites-requires : goal.put_sites-requires
put_sites-requires c = let p : ReportParts _ _ _ _ = report_parts _ _ _ _ c.requires.0 in (p.world, omega arith)

pub put_last-requires : goal.put_last-requires
put_last-requires c = let p : ReportParts _ _ _ _ = report_parts _ _ _ _ c.requires.0 in (omega arith, omega arith, omega arith)

pub returns-clause-put : goal.returns-clause-put
unfolding report_text
returns-clause-put c = joined (joined c.put_sizes.ensures.put c.put_sites.ensures.put) c.put_last.ensures.put
