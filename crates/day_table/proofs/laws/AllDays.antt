-- All lines of the table by one proof. Each definition that it computes through is named.
use Rattle.std.specs.Prelude.{refl}
use Rattle.choice.specs.Places.{sum_to, all_below, stored_to}
use Rattle.word.specs.Words.{word_at}
use Rattle.weights.specs.Weights.{weight_of, total_weight, larger, largest_to, largest_weight, valid_weight, valid_weights, weights_by, even_weights}
use Rattle.vector.specs.Codes.{level, is_outcome}
use Rattle.vector.specs.Vector.{entry_weight, weigh, count, first_outcome, lowest_outcome, valid_entry, valid_entries, valid_vector}
use Rattle.merging.specs.Merging.{rises, merge_entry, take_entry, take_entries, merging_in_order, is_other, sites_but, sender_if_other, sender_first, merging}
use Rattle.bits.specs.Bits.{has_bit, only_site, every_site, other_sites}
use Rattle.row.specs.Rows.{no_row, row_place, put_head, put_row_at, put_row, row_at, get_row, codes_known, row_known}
use Rattle.code_bytes.specs.CodeBytes.{put_codes, codes_from}
use Rattle.site.specs.State.{state_by, state_of, code_of, is_terminated, is_active, commit_reached, abort_reached}
use Rattle.site.specs.Fields.{zero_vector, blank_site, with_up, with_coordinator, with_prepared, with_group, with_outcome, with_codes}
use Rattle.site.specs.Records.{group_of, outcome_of, record_code, with_own, write_prepare, join_group, write_outcome}
use Rattle.rules.specs.Rules.{silent, command_row, commanding, reply_row, replying, start, take_over, choose_group, decide_commit, decide_abort, timeout_in, timeout, hear, adopt_code, adopt, vote_in, join_commit_in, join_abort_in, after, answer, bringing, after_hearing, deliver, kept_vector, crash, restart, recover}
use Rattle.command.specs.Commands.{found, refused, target, delivery, read_target, read_delivery, read_byte, read_command}
use Rattle.world.specs.Sizes.{sites_fit, quorums_fit, sizes_number}
use Rattle.world.specs.Worlds.{down_sites, zero_world, fresh_sites, fresh_world, site_of, is_willing, with_site, with_rows, with_news}
use Rattle.world.specs.Valid.{valid_group, valid_site, valid_sites, valid_world}
use Rattle.header.specs.Headers.{first_header, second_header, is_second, header_of, header_weights, header_length, header_sizes, is_cut, header_number, header_world}
use Rattle.play.specs.Calls.{refuse, put_back, enter_silent, enter_row, within_news, enter}
use Rattle.play.specs.Commands.{start_call, timeout_call, crash_call, recover_call, deliver_row, deliver_call, perform, perform_read, play_command, one_command}
use Rattle.play.specs.Run.{call_of, after_call, run}
use Rattle.list.specs.Play.{stopped, after_ask, ask_at, play_from, refused_list, play_list}
use Rattle.text.specs.Text.{text, digit_at, decimal, named}
use Rattle.lines.specs.Lines.{sizes_line, up_word, role_word, state_word, prepare_letter, group_letter, outcome_letter, log_letters, code_digits, site_line, site_lines, last_line}
use Rattle.report.specs.Report.{report_text}
use Rattle.day_table.specs.Shown.{START, DELIVER, TIMEOUT, CRASH, RECOVER, three, weighed, bits, sent, prepare, vote, join_abort, in_group, outcome, sent_by, rows_sent, lines, shown_by, shown}
use Rattle.day_table.specs.Claims.{played, stated, DaysHold}
use Rattle.day_table.specs.Table.{M1, M2, M3, M4, M5, M6, M7, M8, M9, M10, T1, R1, R2, R3, W1, days}

pub all-days : DaysHold
unfolding played stated START DELIVER TIMEOUT CRASH RECOVER three weighed bits sent prepare vote join_abort in_group outcome sent_by rows_sent lines shown_by shown M1 M2 M3 M4 M5 M6 M7 M8 M9 M10 T1 R1 R2 R3 W1 days level is_outcome rises merge_entry take_entry take_entries merging_in_order is_other sites_but sender_if_other sender_first merging weight_of total_weight larger largest_to largest_weight valid_weight valid_weights weights_by even_weights sum_to all_below stored_to word_at entry_weight weigh count first_outcome lowest_outcome valid_entry valid_entries valid_vector has_bit only_site every_site other_sites no_row row_place put_head put_codes put_row_at put_row codes_from row_at get_row codes_known row_known state_by state_of code_of is_terminated is_active commit_reached abort_reached zero_vector blank_site with_up with_coordinator with_prepared with_group with_outcome with_codes group_of outcome_of record_code with_own write_prepare join_group write_outcome silent command_row commanding reply_row replying start take_over choose_group decide_commit decide_abort timeout_in timeout hear adopt_code adopt vote_in join_commit_in join_abort_in after answer bringing after_hearing deliver kept_vector crash restart recover found refused target delivery read_target read_delivery read_byte read_command sites_fit quorums_fit sizes_number down_sites zero_world fresh_sites fresh_world site_of is_willing with_site with_rows with_news valid_group valid_site valid_sites valid_world refuse put_back enter_silent enter_row within_news enter start_call timeout_call crash_call recover_call deliver_row deliver_call perform perform_read play_command one_command call_of after_call run first_header second_header is_second header_of header_weights header_length header_sizes is_cut header_number header_world stopped after_ask ask_at play_from refused_list play_list text digit_at decimal named sizes_line up_word role_word state_word prepare_letter group_letter outcome_letter log_letters code_digits site_line site_lines last_line report_text
all-days = refl
