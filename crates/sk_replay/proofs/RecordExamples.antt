-- Each worked record is what the definition computes.
use Rattle.std.proofs.Common.{refl}
use Rattle.std.specs.Fmt.{digits}
use Rattle.sk_text.specs.Numbers.{number_of}
use Rattle.sk_insn.specs.Actions.{action_of}
use Rattle.sk_filter.specs.Errors.{error_named}
use Rattle.sk_filter.specs.VerdictText.{verdict_text}
use Rattle.sk_names.specs.X86_64.{name_of, number_named}
use Rattle.sk_names.specs.Names.{name_at, name_in, name_on, number_at, number_in, number_on, runs_of}
use Rattle.sk_arguments.specs.Constants.{all_names, all_numbers, number_of_constant}
use Rattle.sk_replay.specs.WordCalls.{plain_number}
use Rattle.sk_replay.specs.CallWords.{argument_of, negative_number, negative_of, number_in_c, number_or_constant, octal_number, part_of}
use Rattle.sk_replay.specs.Nests.{behind, ends_argument}
use Rattle.sk_replay.specs.Values.{bare, is_plain_byte, raw_number, unnamed, value_of, written}
use Rattle.sk_replay.specs.Lines.{begun_call, call_in, is_event, is_mark, is_mark_byte, is_returned, number_shown, recorded_of, said_at, values_in, whole_call}
use Rattle.sk_replay.specs.AuditRecords.{action_in, audited_call, fields_in, is_record_type, is_source, number_behind}
use Rattle.sk_replay.specs.Modes.{is_other_mode}
use Rattle.sk_replay.specs.Replaying.{call_text, logged_name, number_text, row_text}
use Rattle.sk_replay.specs.WorkedRecords.{WorkedRecords}

pub worked_records : WorkedRecords
unfolding action_of error_named verdict_text digits name_of number_named name_at name_in name_on number_at number_in number_on runs_of number_of all_names all_numbers number_of_constant plain_number argument_of negative_number negative_of number_in_c number_or_constant octal_number part_of behind ends_argument bare is_plain_byte raw_number unnamed value_of values_in written begun_call call_in is_event is_mark is_mark_byte is_returned number_shown said_at whole_call is_other_mode is_record_type is_source fields_in recorded_of number_behind action_in audited_call call_text logged_name number_text row_text
worked_records = record {
  of_the_journal = refl;
  of_the_same = refl;
  with_a_parenthesis = refl;
  with_a_monotonic_time = refl;
  of_another = refl;
  of_another_alone = refl;
  two_numbers = refl;
  type_further_on = refl;
  other_type = refl;
  other_source = refl;
  type_in_parentheses = refl;
  written = refl;
  written_behind_a_space = refl;
  written_is_no_record = refl;
  event_is_no_record = refl;
  nothing_is_no_record = refl;
  no_code = refl;
  kill_thread = refl;
  unknown_code = refl;
  greatest_code = refl;
  nine_digits = refl;
  no_digits = refl;
  in_decimal = refl;
  two_codes = refl;
  of_strace = refl;
  same_code = refl;
  other_code = refl;
  code_and_none = refl;
  killed = refl;
  refused = refl;
  refused_with_data = refl;
  unknown = refl;
  nothing = refl;
  row = refl;
  row_with_data = refl;
  row_undecided = refl;
  row_of_strace = refl;
}
