-- Each worked text is what the definition computes.
use Rattle.std.proofs.Common.{refl}
use Rattle.std.specs.Fmt.{digits}
use Rattle.sk_text.specs.Numbers.{number_of}
use Rattle.sk_replay.specs.WordCalls.{plain_number}
use Rattle.sk_text.specs.Words.{is_letter}
use Rattle.sk_names.specs.X86_64.{name_of, number_named}
use Rattle.sk_names.specs.Names.{name_at, name_in, name_on, number_at, number_in, number_on, runs_of}
use Rattle.sk_filter.specs.Errors.{error_number}
use Rattle.sk_policy_text.specs.Words.{is_blank, is_letter_or_digit, is_word_byte, is_pair, goes_on, begun, place_of}
use Rattle.sk_policy_text.specs.Verdicts.{data_in, action_value, verdict_of_word, error_in}
use Rattle.sk_policy_text.specs.Sentences.{behind_error, verdict, only_verdict, range_in, ends_items, ends_item, item_ends, behind_dash, behind_name, range_item, number_item, name_item, item, behind_colon, verdict_or_none, row, arch, line, where_or_else, case, said_by}
use Rattle.sk_policy_text.specs.WorkedWords.{WorkedWords}
use Rattle.sk_policy_text.specs.WorkedSentences.{WorkedSentences, WrongSentences}

pub worked_words : WorkedWords
unfolding is_blank is_letter_or_digit is_word_byte is_pair goes_on begun place_of
worked_words = record {
  row = refl;
  range = refl;
  verdict = refl;
  mask = refl;
  pairs = refl;
  three = refl;
  others = refl;
  blanks = refl;
  remark = refl;
  remark_alone = refl;
  text = refl;
  sentence = refl;
  last_sentence = refl;
  no_sentence = refl;
}

pub worked_sentences : WorkedSentences
unfolding plain_number number_of digits number_named number_at number_in number_on name_of name_at name_in name_on runs_of error_number is_letter is_blank is_letter_or_digit is_word_byte is_pair goes_on begun place_of data_in action_value verdict_of_word error_in behind_error verdict only_verdict range_in ends_items ends_item item_ends behind_dash behind_name range_item number_item name_item item behind_colon verdict_or_none row arch line where_or_else case said_by
worked_sentences = record {
  names = refl;
  no_colon = refl;
  cases_follow = refl;
  colon_alone = refl;
  mixed = refl;
  ranges = refl;
  hexadecimal = refl;
  most_data = refl;
  error_name = refl;
  error_number = refl;
  error_both = refl;
  error_none = refl;
  error_most = refl;
  second_name = refl;
  second_name_behind = refl;
  both_names = refl;
  both_names_too = refl;
  default = refl;
  default_colon = refl;
  others = refl;
  arch = refl;
  arch_colon = refl;
  elsewhere = refl;
  case = refl;
  case_with_error = refl;
  else = refl;
  refused = refl;
  performed = refl;
  default_refused = refl;
  case_performed = refl;
  else_refused = refl;
}

pub wrong_sentences : WrongSentences
unfolding plain_number number_of digits number_named number_at number_in number_on name_of name_at name_in name_on runs_of error_number is_letter is_blank is_letter_or_digit is_word_byte is_pair goes_on begun place_of data_in action_value verdict_of_word error_in behind_error verdict only_verdict range_in ends_items ends_item item_ends behind_dash behind_name range_item number_item name_item item behind_colon verdict_or_none row arch line where_or_else case said_by
wrong_sentences = record {
  nothing = refl;
  other_name = refl;
  no_name = refl;
  other_error = refl;
  error_twice = refl;
  error_of_trap = refl;
  no_call = refl;
  too_large = refl;
  falling = refl;
  dash_in_name = refl;
  no_comma = refl;
  two_numbers = refl;
  dash_behind_name = refl;
  unknown = refl;
  unknown_behind = refl;
  comma_before = refl;
  comma_last = refl;
  no_data = refl;
  large_error = refl;
  large_data = refl;
  empty_data = refl;
  two_verdicts = refl;
  two_colons = refl;
  no_default = refl;
  x32 = refl;
  no_arch = refl;
  two_archs = refl;
  neither = refl;
  several = refl;
  no_condition = refl;
  behind_else = refl;
  no_verdict = refl;
  data_of_refused = refl;
  error_of_refused = refl;
  two_expectations = refl;
  anything = refl;
}
