-- One name that opens every definition of the book, for a declaration that computes a run.
use Rattle.rules.specs.Bytes.{bytes_of, same_bytes, ranging, is_upper, is_lower, class_of, class_number, same_class, is_letter, is_digit, is_underscore, is_blank, begins_name, continues_name, name_length, all_continue, is_name}
use Rattle.rules.specs.Answers.{answer_number, answer_detail, is_finished, is_stopped, numbers, ending_answer, fault_answer}
use Rattle.rules.specs.Marks.{mark_text, mark_texts, default_marks, is_barred, none_barred, is_mark, is_end_mark, quoted, with_quotes, with_comments}
use Rattle.rules.specs.Source.{ahead, advance, push_back, source_of}
use Rattle.rules.specs.Tokens.{begins_with, at_mark, first_place, end_plus_one, quote_end, comment_to_end, comment_read, read_comment, quote_read, read_quoted, read_token}
use Rattle.rules.specs.Places.{plus_one}
use Rattle.rules.specs.Chunks.{least_first, bytes_least_first, chunk_kind, and_byte, carried, chunks_read, chunked_from, chunked}
use Rattle.rules.specs.Sets.{parted, body_read, item_read, is_end, and_item, items_from, set_items, item_text, item_form, set_form, empty_set}
use Rattle.rules.specs.Table.{predefined_names, plain_unless_opened, among, needs_parenthesis, fresh_table, number_from, predefined_number, keeps_own, own_meaning, own_lost, newest_place, meaning_at, meaning_of, is_defined, pushed, defined, popped, without, undefined, in_turn, meaning_cost, table_cost}
use Rattle.rules.specs.Streams.{empty_streams, waiting_in, discards, placed, is_current, emptied, moved, moved_in_turn, joined, finished_streams, dropped_streams, diverted, changed, changed_in_turn, total_length}
use Rattle.rules.specs.State.{fresh_start, start_state, with_source, with_marks, with_calls, with_table, with_streams, with_wrap, with_errors, taking, resulting, changing, emitting}
use Rattle.rules.specs.Arguments.{arg, number_or, bounded, separated, quoted_each, parameter, parameter_at, substituted}
use Rattle.rules.specs.Words.{signed_value, wrapped, wrapped_number, truth}
use Rattle.rules.specs.Numerals.{digit_worth, natural_from, natural, up_to, as_signed, number, digit_byte, digits_by, digits_in, zero_filled, written_in, decimal}
use Rattle.rules.specs.Operators.{operator_of, unary_applied, shift_count, both_applied, truth_of, strict_applied, applied_to, applied}
use Rattle.rules.specs.Expression.{blanks, past_blanks, is_x, behind_zero, literal, literal_read, literal_at, leading_of, leading_at, binding, operator_at, closed_by, signed_by, operand_by, onward, operand_at, wholly, evaluation}
use Rattle.rules.specs.Results.{needing, is_number, changed_number, decr_result, incr_result, in_front, defn_result, divnum_result, shown_result, is_unreadable, eval_result, ifdef_result, chosen, ifelse_result, contents_or, include_result, sinclude_result, place_or, index_result, len_result, shift_result, shortened, substr_result, partner, transliterated, translit_result}
use Rattle.rules.specs.Macros.{giving, marking, call_changecom, call_changequote, call_decr, naming, call_define, call_defn, call_divert, call_divnum, line_length, call_dnl, call_errprint, call_eval, call_ifdef, call_ifelse, call_incr, call_index, call_len, call_m4exit, call_m4wrap, call_popdef, call_pushdef, call_shift, call_substr, call_translit, call_undefine, also_stream, stream_numbers, undivert_numbers, call_undivert, call_include, call_sinclude, copying, call_copydef, call_nothing, macros, perform, performed, called}
use Rattle.rules.specs.Step.{at_end, collecting, delivered, argument_count, open_call, opened, unopened, used_with, name_use, named, closed, next_argument, comma_met, right_met, comma_at_depth, other_met, in_call, single_byte, act, reacted, step}
use Rattle.rules.specs.Changes.{bare_call, closed_call, right_call, byte_call, token_call, read_call, call_of, divert_changes, exit_changes, undivert_changes, no_changes, macro_changes, call_changes, own_changes, name_changes, end_changes, token_changes, read_changes, call_or, changes_of, is_working, all_working, ending_change}
use Rattle.rules.specs.Run.{lengths, calls_cost, held, overfull, ended_with, judged, continued, run_from, all_lendable, started, admitted, run}
use Rattle.rules.specs.Room.{length_numbered, stopper, stopped_by}
use Rattle.rules.specs.Contract.{setting_of, output_of, errors_of, report_of, fronted, zeroed_by, left_by, run_in, written}
use Rattle.rules.specs.Lines.{index_number, index_value_by, index_value, word_count, newline_bit, newlines, newline_bits, word_at, total_at, each, words_of, totals_of, has_room, judged_index, building, held_by, line_in, line_of, last_below, select, behind_bit, start_in_word, start_in, start_of, counted_line, behind_newline, start_at, counted_start}
use Rattle.rules.specs.Sheets.{front_length, in_first_line, lines_of, quotient, quotient_of, fraction, digit_count, pointed, unsigned_decimal, negated, decimal_value, word_value, decimal_or, value_at, entry_of, behind_name, entry_at, name_in, is_named, first_named, question, judged_lines, sheet_of, sheet_judged, sheet_read, sheet_in, sheet_number, sheet_detail, sheet_after, sheet_report_of, line_name, line_value, line_named, line_start}
use Rattle.rules.specs.History.{following, states_from, items_or, states_of, changes_along, history_of, first_placed, current_after, tallied, first_tally, counting_from, numbered_change, numbered_from, output_numbers, values_from, values_of, value_in, given_in, is_waiting, takes, target, gives, route_after, route_from, route_of, first_stream, is_lost, stands_in, is_taken, moves_from, moves_of, occurrences}
use Rattle.rules.specs.Cases.{writes, meets, case_holds, first_wrong, budgeted, ample, lending, case, third_text, worked_cases, trap_cases, word_cases, comment_cases, copy_cases}

unfoldable pub book : Unit {0}
unfolding bytes_of same_bytes ranging is_upper is_lower class_of class_number same_class is_letter is_digit is_underscore is_blank begins_name continues_name name_length all_continue is_name answer_number answer_detail is_finished is_stopped numbers ending_answer fault_answer mark_text mark_texts default_marks is_barred none_barred is_mark is_end_mark quoted with_quotes with_comments ahead advance push_back source_of begins_with at_mark plus_one first_place end_plus_one quote_end comment_to_end comment_read read_comment quote_read read_quoted read_token least_first bytes_least_first chunk_kind and_byte carried chunks_read chunked_from chunked parted body_read item_read is_end and_item items_from set_items item_text item_form set_form empty_set predefined_names plain_unless_opened among needs_parenthesis fresh_table number_from predefined_number keeps_own own_meaning own_lost newest_place meaning_at meaning_of is_defined pushed defined popped without undefined in_turn meaning_cost table_cost empty_streams waiting_in discards placed is_current emptied moved moved_in_turn joined finished_streams dropped_streams diverted changed changed_in_turn total_length fresh_start start_state with_source with_marks with_calls with_table with_streams with_wrap with_errors taking resulting changing emitting arg number_or bounded separated quoted_each parameter parameter_at substituted signed_value wrapped wrapped_number truth digit_worth natural_from natural up_to as_signed number digit_byte digits_by digits_in zero_filled written_in decimal operator_of unary_applied shift_count both_applied truth_of strict_applied applied_to applied blanks past_blanks is_x behind_zero literal literal_read literal_at leading_of leading_at binding operator_at closed_by signed_by operand_by onward operand_at wholly evaluation needing is_number changed_number decr_result incr_result in_front defn_result divnum_result shown_result is_unreadable eval_result ifdef_result chosen ifelse_result contents_or include_result sinclude_result place_or index_result len_result shift_result shortened substr_result partner transliterated translit_result giving marking call_changecom call_changequote call_decr naming call_define call_defn call_divert call_divnum line_length call_dnl call_errprint call_eval call_ifdef call_ifelse call_incr call_index call_len call_m4exit call_m4wrap call_popdef call_pushdef call_shift call_substr call_translit call_undefine also_stream stream_numbers undivert_numbers call_undivert call_include call_sinclude copying call_copydef call_nothing macros perform performed called at_end collecting delivered argument_count open_call opened unopened used_with name_use named closed next_argument comma_met right_met comma_at_depth other_met in_call single_byte act reacted step bare_call closed_call right_call byte_call token_call read_call call_of divert_changes exit_changes undivert_changes no_changes macro_changes call_changes own_changes name_changes end_changes token_changes read_changes call_or changes_of is_working all_working ending_change lengths calls_cost held overfull ended_with judged continued run_from all_lendable started admitted run length_numbered stopper stopped_by setting_of output_of errors_of report_of fronted zeroed_by left_by run_in written writes meets case_holds first_wrong budgeted ample lending case third_text worked_cases trap_cases word_cases comment_cases copy_cases index_number index_value_by index_value word_count newline_bit newlines newline_bits word_at total_at each words_of totals_of has_room judged_index building held_by line_in line_of last_below select behind_bit start_in_word start_in start_of counted_line behind_newline start_at counted_start front_length in_first_line lines_of quotient quotient_of fraction digit_count pointed unsigned_decimal negated decimal_value word_value decimal_or value_at entry_of behind_name entry_at name_in is_named first_named question judged_lines sheet_of sheet_judged sheet_read sheet_in sheet_number sheet_detail sheet_after sheet_report_of line_name line_value line_named line_start following states_from items_or states_of changes_along history_of first_placed current_after tallied first_tally counting_from numbered_change numbered_from output_numbers values_from values_of value_in given_in is_waiting takes target gives route_after route_from route_of first_stream is_lost stands_in is_taken moves_from moves_of occurrences
book = tt
