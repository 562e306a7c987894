-- The report's text fits 1,024 bytes, whatever it reports; the longest.
use Rattle.std.specs.Prelude.{◌≤◌, refl}
use Rattle.std.proofs.Common.{arith, length-append}
use Rattle.choice.specs.Places.{sum_to, all_below}
use Rattle.text.specs.Text.{text, digit_at, decimal, named}
use Rattle.weights.specs.Weights.{weight_of, total_weight, larger, largest_to, largest_weight, valid_weight, valid_weights}
use Rattle.vector.specs.Vector.{valid_entry, valid_entries, valid_vector}
use Rattle.site.specs.State.{state_by, state_of, code_of}
use Rattle.site.specs.Fields.{zero_vector, blank_site}
use Rattle.world.specs.Sizes.{sites_fit, quorums_fit, sizes_number}
use Rattle.world.specs.Worlds.{site_of}
use Rattle.world.specs.Valid.{valid_group, valid_site, valid_sites, valid_world}
use Rattle.lines.specs.Lines.{sizes_line, up_word, role_word, state_word, prepare_letter, group_letter, outcome_letter, log_letters, code_digits, site_line, site_lines, last_line}
use Rattle.lines.specs.laws.LineLaws.{small-sizes}
use Rattle.lines.specs.laws.LengthLaws.{sizes-length, sites-length, last-length}
use Rattle.report.specs.Report.{report_text, report_valid}
use Rattle.report.specs.Claims.{ReportFits, down_in_group, longest_world, LongestReport}
use Rattle.report.specs.laws.ReportLaws.{ReportParts, report_parts}

pub report-length : ReportFits
unfolding report_text
report-length w events number place e =
    let p : ReportParts w events number place = report_parts w events number place e in
    let small : w.n ≤ 16 = (small-sizes w p.world).sites-small in
    simp length-append
    (omega (arith, sizes-length w events p.world p.events-fit, sites-length w.n w small small, last-length number place (omega (arith, p.number-known)) p.place-fits))

pub longest_report : LongestReport
unfolding down_in_group longest_world text digit_at decimal named valid_entry valid_entries valid_vector state_by state_of code_of zero_vector blank_site sum_to all_below weight_of total_weight larger largest_to largest_weight valid_weight valid_weights sites_fit quorums_fit sizes_number site_of valid_group valid_site valid_sites valid_world sizes_line up_word role_word state_word prepare_letter group_letter outcome_letter log_letters code_digits site_line site_lines last_line report_text report_valid
longest_report = (refl, refl)
