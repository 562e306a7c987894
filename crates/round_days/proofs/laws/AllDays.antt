-- The days and their rounds by one proof. Each definition that it computes through is named.
use Rattle.std.specs.Prelude.{◌+◌, ◌*◌, true, ◌≡◌, refl, leb, eqb}
use Rattle.std.proofs.Common.{leb-true, eqb-true}
use Rattle.choice.specs.laws.Stores.{all-each}
use Rattle.world.specs.declared.World.{World}
use Rattle.choice.specs.Places.{sum_to, all_below, stored_to}
use Rattle.word.specs.Words.{word_at}
use Rattle.weights.specs.Weights.{weight_of, total_weight, larger, largest_to, largest_weight, valid_weight, valid_weights, weights_by, even_weights}
use Rattle.vector.specs.Codes.{level, is_outcome}
use Rattle.vector.specs.Vector.{entry_weight, weigh, count, first_outcome, lowest_outcome, valid_entry, valid_entries, valid_vector}
use Rattle.merging.specs.Merging.{rises, merge_entry, take_entry, take_entries, merging_in_order, is_other, sites_but, sender_if_other, sender_first, merging}
use Rattle.bits.specs.Bits.{has_bit, only_site, every_site, other_sites}
use Rattle.row.specs.Rows.{no_row, row_place, put_head, put_row_at, put_row, row_at, get_row, codes_known, row_known}
use Rattle.code_bytes.specs.CodeBytes.{put_codes, codes_from}
use Rattle.site.specs.State.{state_by, state_of, code_of, is_terminated, is_active, commit_reached, abort_reached}
use Rattle.site.specs.Fields.{zero_vector, blank_site, with_up, with_coordinator, with_prepared, with_group, with_outcome, with_codes}
use Rattle.site.specs.Records.{group_of, outcome_of, record_code, with_own, write_prepare, join_group, write_outcome}
use Rattle.rules.specs.Rules.{silent, command_row, commanding, reply_row, replying, start, take_over, choose_group, decide_commit, decide_abort, timeout_in, timeout, hear, adopt_code, adopt, vote_in, join_commit_in, join_abort_in, after, answer, bringing, after_hearing, deliver, kept_vector, crash, restart, recover}
use Rattle.command.specs.Commands.{found, refused, target, delivery, read_target, read_delivery, read_byte, read_command}
use Rattle.world.specs.Sizes.{max_rows, sites_fit, quorums_fit, sizes_number}
use Rattle.world.specs.Worlds.{down_sites, zero_world, fresh_sites, fresh_world, site_of, is_willing, with_site, with_rows, with_news}
use Rattle.world.specs.Valid.{valid_group, valid_site, valid_sites, valid_world}
use Rattle.header.specs.Headers.{first_header, second_header, is_second, header_of, header_weights, header_length, header_sizes, is_cut, header_number, header_world}
use Rattle.play.specs.Calls.{refuse, put_back, enter_silent, enter_row, within_news, enter}
use Rattle.play.specs.Commands.{start_call, timeout_call, crash_call, recover_call, deliver_row, deliver_call, perform, perform_read, play_command, one_command}
use Rattle.play.specs.Run.{call_of}
use Rattle.list.specs.Play.{stopped, after_ask, ask_at, play_from, refused_list, play_list}
use Rattle.spelling.specs.Spelling.{command_bytes}
use Rattle.quiet.specs.Quiet.{row_to}
use Rattle.termination.specs.Schedule.{set_out, give, waited_at, hand_on, deliver_to, visit, visits, turn, turns, in_turn, rounds}
use Rattle.termination.specs.Claims.{AllBack}
use Rattle.round_days.specs.Days.{states_to, end_of, shown, all_voted, not_begun, weighed, side_by_side, meeting, days}
use Rattle.round_days.specs.Claims.{played, stated, DaysHold, AllMeet, PremisesMet}

pub days_hold : DaysHold
unfolding states_to end_of shown all_voted not_begun weighed side_by_side meeting days played stated set_out give waited_at hand_on deliver_to visit visits turn turns in_turn rounds command_bytes row_to sum_to all_below stored_to word_at weight_of total_weight larger largest_to largest_weight valid_weight valid_weights weights_by even_weights level is_outcome entry_weight weigh count first_outcome lowest_outcome valid_entry valid_entries valid_vector rises merge_entry take_entry take_entries merging_in_order is_other sites_but sender_if_other sender_first merging has_bit only_site every_site other_sites no_row row_place put_head put_row_at put_row row_at get_row codes_known row_known put_codes codes_from state_by state_of code_of is_terminated is_active commit_reached abort_reached zero_vector blank_site with_up with_coordinator with_prepared with_group with_outcome with_codes group_of outcome_of record_code with_own write_prepare join_group write_outcome silent command_row commanding reply_row replying start take_over choose_group decide_commit decide_abort timeout_in timeout hear adopt_code adopt vote_in join_commit_in join_abort_in after answer bringing after_hearing deliver kept_vector crash restart recover found refused target delivery read_target read_delivery read_byte read_command sites_fit quorums_fit sizes_number down_sites zero_world fresh_sites fresh_world site_of is_willing with_site with_rows with_news valid_group valid_site valid_sites valid_world first_header second_header is_second header_of header_weights header_length header_sizes is_cut header_number header_world refuse put_back enter_silent enter_row within_news enter start_call timeout_call crash_call recover_call deliver_row deliver_call perform perform_read play_command one_command call_of stopped after_ask ask_at play_from refused_list play_list
days_hold = refl

-- everyone is back, by tests
back_by : (w : World) → all_below (λ j. (site_of w j).up) w.n ≡ true → eqb (w.commit.0 + w.abort.0) (total_weight w.weights + 1) ≡ true →
    leb (w.rows + 3 * (w.n * w.n)) max_rows ≡ true → AllBack w
back_by w up quorums free =
    record {
      up = all-each (λ j. (site_of w j).up) w.n up;
      quorums = eqb-true (w.commit.0 + w.abort.0) (total_weight w.weights + 1) quorums;
      free = leb-true (w.rows + 3 * (w.n * w.n)) max_rows free;
    }

pub premises_met : PremisesMet
unfolding AllMeet states_to end_of shown all_voted not_begun weighed side_by_side meeting days played stated set_out give waited_at hand_on deliver_to visit visits turn turns in_turn rounds command_bytes row_to sum_to all_below stored_to word_at weight_of total_weight larger largest_to largest_weight valid_weight valid_weights weights_by even_weights level is_outcome entry_weight weigh count first_outcome lowest_outcome valid_entry valid_entries valid_vector rises merge_entry take_entry take_entries merging_in_order is_other sites_but sender_if_other sender_first merging has_bit only_site every_site other_sites no_row row_place put_head put_row_at put_row row_at get_row codes_known row_known put_codes codes_from state_by state_of code_of is_terminated is_active commit_reached abort_reached zero_vector blank_site with_up with_coordinator with_prepared with_group with_outcome with_codes group_of outcome_of record_code with_own write_prepare join_group write_outcome silent command_row commanding reply_row replying start take_over choose_group decide_commit decide_abort timeout_in timeout hear adopt_code adopt vote_in join_commit_in join_abort_in after answer bringing after_hearing deliver kept_vector crash restart recover found refused target delivery read_target read_delivery read_byte read_command sites_fit quorums_fit sizes_number down_sites zero_world fresh_sites fresh_world site_of is_willing with_site with_rows with_news valid_group valid_site valid_sites valid_world first_header second_header is_second header_of header_weights header_length header_sizes is_cut header_number header_world refuse put_back enter_silent enter_row within_news enter start_call timeout_call crash_call recover_call deliver_row deliver_call perform perform_read play_command one_command call_of stopped after_ask ask_at play_from refused_list play_list
premises_met = (
  back_by (end_of all_voted.list).world refl refl refl,
  (back_by (end_of not_begun.list).world refl refl refl, (back_by (end_of weighed.list).world refl refl refl, tt)),
)
