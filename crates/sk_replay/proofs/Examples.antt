-- Each worked row is what the definition computes.
use Rattle.std.proofs.Common.{refl}
use Rattle.std.specs.Fmt.{digits}
use Rattle.sk_text.specs.Numbers.{number_of}
use Rattle.sk_names.specs.X86_64.{name_of, number_named}
use Rattle.sk_names.specs.Names.{name_at, name_in, name_on, number_at, number_in, number_on, runs_of}
use Rattle.sk_arguments.specs.Constants.{all_names, all_numbers, number_of_constant}
use Rattle.sk_replay.specs.WordCalls.{plain_number}
use Rattle.sk_replay.specs.CallWords.{argument_of, negative_number, negative_of, number_in_c, number_or_constant, octal_number, part_of}
use Rattle.sk_replay.specs.Nests.{behind, ends_argument}
use Rattle.sk_replay.specs.Values.{bare, is_plain_byte, raw_number, unnamed, value_of, written}
use Rattle.sk_replay.specs.Lines.{begun_call, call_in, is_event, is_mark, is_mark_byte, is_returned, number_shown, recorded_of, said_at, values_in, whole_call}
use Rattle.sk_replay.specs.AuditRecords.{action_in, audited_call, fields_in, is_record_type, is_source, number_behind}
use Rattle.sk_replay.specs.Modes.{is_other_mode}
use Rattle.sk_replay.specs.Replaying.{call_text, number_text}
use Rattle.sk_replay.specs.Since.{effective, process_number, scope_of_call}
use Rattle.sk_replay.specs.WorkedArguments.{WorkedArguments}
use Rattle.sk_replay.specs.WorkedCalls.{WorkedCalls}
use Rattle.sk_replay.specs.WorkedLines.{WorkedLines}
use Rattle.sk_replay.specs.WorkedLogged.{WorkedLogged}
use Rattle.sk_replay.specs.WorkedSince.{WorkedSince}

pub worked_arguments : WorkedArguments
unfolding number_of all_names all_numbers number_of_constant plain_number argument_of negative_number negative_of number_in_c number_or_constant octal_number part_of behind ends_argument bare is_plain_byte raw_number unnamed value_of values_in
worked_arguments = record {
  two = refl;
  none = refl;
  greatest = refl;
  too_great = refl;
  six = refl;
  seven = refl;
  cut_off = refl;
  more_to_come = refl;
  text = refl;
  structure = refl;
  paths = refl;
  connection = refl;
  device = refl;
  capabilities = refl;
  comment = refl;
  comment_before_more = refl;
  null = refl;
  below_zero = refl;
  octal = refl;
  kind_and_mode = refl;
  name_and_bits = refl;
  unknown_name = refl;
  no_name = refl;
  shift = refl;
  written_back = refl;
  set = refl;
  nothing = refl;
  flags = refl;
  raw = refl;
  raw_zero = refl;
  not_raw = refl;
}

pub worked_calls : WorkedCalls
unfolding digits name_of number_named name_at name_in name_on number_at number_in number_on runs_of number_of all_names all_numbers number_of_constant plain_number argument_of negative_number negative_of number_in_c number_or_constant octal_number part_of behind ends_argument bare is_plain_byte raw_number unnamed value_of values_in written begun_call call_in is_event is_mark is_mark_byte is_returned number_shown said_at whole_call is_other_mode is_record_type is_source fields_in recorded_of number_behind action_in audited_call call_text number_text
worked_calls = record {
  on_x86_64 = refl;
  on_i386 = refl;
  on_x32 = refl;
  shown_on_x32 = refl;
  only_on_i386 = refl;
  line = refl;
  unclear = refl;
  usual = refl;
  failed = refl;
  timed = refl;
  with_pointer = refl;
  with_number = refl;
  ended_by_it = refl;
  begun = refl;
  begun_with_none = refl;
  begun_inside = refl;
  cloned = refl;
  cloned_on_s390 = refl;
  cloned_raw = refl;
  two_registers = refl;
  left_out = refl;
  cut_off = refl;
  no_result = refl;
  left_quoted = refl;
  two_names = refl;
  blank = refl;
  blank_with_spaces = refl;
  number_alone = refl;
  parenthesis_alone = refl;
  signal = refl;
  attached = refl;
  ended = refl;
  dumped = refl;
  resumed = refl;
  with_other_arguments = refl;
  with_one_that_is_shown = refl;
  seen = refl;
  text = refl;
  text_on_x86_64 = refl;
  text_begun = refl;
  text_without_the_bit = refl;
  text_with_it = refl;
}

pub worked_lines : WorkedLines
unfolding digits name_of number_named name_at name_in name_on number_at number_in number_on runs_of number_of all_names all_numbers number_of_constant plain_number argument_of negative_number negative_of number_in_c number_or_constant octal_number part_of behind ends_argument bare is_plain_byte raw_number unnamed value_of values_in written begun_call call_in is_event is_mark is_mark_byte is_returned number_shown said_at whole_call is_other_mode is_record_type is_source fields_in recorded_of number_behind action_in audited_call
worked_lines = record {
  mode_64 = refl;
  mode_32 = refl;
  mode_32_of_arm = refl;
  mode_x32 = refl;
  mode_of_others = refl;
  not_64 = refl;
  not_64_but_x32 = refl;
  not_32 = refl;
  not_32_of_others = refl;
  not_x32 = refl;
  mode_cut_off = refl;
  attached = refl;
  detached = refl;
  resumed = refl;
  place = refl;
  of_auditd = refl;
  enriched = refl;
  of_dmesg = refl;
  of_dmesg_with_date = refl;
  of_the_journal = refl;
  of_syslog = refl;
  of_a_node = refl;
  confined = refl;
  named_as_a_field = refl;
  on_i386 = refl;
  on_aarch64 = refl;
  on_x32 = refl;
  greatest_on_x86_64 = refl;
  greatest_on_x32 = refl;
  greatest_of_others = refl;
  too_great = refl;
  below_0 = refl;
  with_the_bit = refl;
  without_the_bit = refl;
  past_x32 = refl;
  past_x86_64 = refl;
  of_another = refl;
  in_hexadecimal = refl;
  in_digits_of_16 = refl;
  arch_with_its_radix = refl;
  arch_in_decimal = refl;
  arch_by_its_name = refl;
  no_arch = refl;
  no_number = refl;
  nothing_behind = refl;
  two_archs = refl;
  two_numbers = refl;
  other_type = refl;
  other_number_of_a_type = refl;
  no_type = refl;
  written = refl;
  written_and_cut_off = refl;
  read = refl;
}

pub worked_logged : WorkedLogged
unfolding digits name_of number_named name_at name_in name_on number_at number_in number_on runs_of number_of all_names all_numbers number_of_constant plain_number argument_of negative_number negative_of number_in_c number_or_constant octal_number part_of behind ends_argument bare is_plain_byte raw_number unnamed value_of values_in written begun_call call_in is_event is_mark is_mark_byte is_returned number_shown said_at whole_call is_other_mode is_record_type is_source fields_in recorded_of number_behind action_in audited_call
worked_logged = record { rising = refl; once = refl; of_all = refl; without_a_name = refl; no_calls = refl; counted = refl; made = refl; not_made = refl; mixed = refl }

pub worked_since : WorkedSince
unfolding digits name_of number_named name_at name_in name_on number_at number_in number_on runs_of number_of all_names all_numbers number_of_constant plain_number argument_of negative_number negative_of number_in_c number_or_constant octal_number part_of behind ends_argument bare is_plain_byte raw_number unnamed value_of values_in written begun_call call_in is_event is_mark is_mark_byte is_returned number_shown said_at whole_call is_other_mode is_record_type is_source fields_in recorded_of number_behind action_in audited_call process_number effective scope_of_call
worked_since = record {
  behind_it = refl;
  again = refl;
  by_prctl = refl;
  by_number = refl;
  not_known_what = refl;
  strict = refl;
  other_calls = refl;
  failed = refl;
  failed_and_padded = refl;
  failed_first = refl;
  killed = refl;
  unfinished = refl;
  fails_later = refl;
  succeeds_later = refl;
  another_fails = refl;
  no_end = refl;
  no_end_but_a_text = refl;
  ends_without_a_number = refl;
  near_end = refl;
  far_end = refl;
  launcher = refl;
  later = refl;
  own_attachment = refl;
  all_threads = refl;
  all_threads_and_more = refl;
  other_flags = refl;
  flags_not_known = refl;
  in_brackets = refl;
  with_times = refl;
  without_numbers = refl;
  times_are_no_numbers = refl;
  number_left_out = refl;
  attached_without_number = refl;
  superseded = refl;
  superseded_before = refl;
  written = refl;
  of_a_record = refl;
  no_filter = refl;
  prctl_of_i386 = refl;
  number_of_i386 = refl;
}
