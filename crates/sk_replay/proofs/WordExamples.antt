-- Each worked word is what the definition computes.
use Rattle.std.proofs.Common.{refl}
use Rattle.std.specs.Fmt.{digits}
use Rattle.sk_text.specs.Numbers.{number_of}
use Rattle.sk_names.specs.X86_64.{number_named}
use Rattle.sk_names.specs.Names.{number_at, number_in, number_on, runs_of}
use Rattle.sk_replay.specs.WordCalls.{plain_number}
use Rattle.sk_arguments.specs.Constants.{all_names, all_numbers, number_of_constant}
use Rattle.sk_replay.specs.CallWords.{argument_of, arguments_of, call_of, given_in, inside_of, named_by, negative_number, negative_of, number_in_c, number_or_constant, octal_number, part_of, plain_of}
use Rattle.sk_replay.specs.WorkedWords.{WorkedWords}

pub worked_words : WorkedWords
unfolding digits number_of all_names all_numbers number_named number_at number_in number_on runs_of plain_number number_of_constant negative_number negative_of number_in_c number_or_constant octal_number part_of plain_of argument_of arguments_of call_of given_in inside_of named_by
worked_words = record {
  arguments = refl;
  name = refl;
  no_argument = refl;
  number = refl;
  largest_number = refl;
  six_in_order = refl;
  spaces = refl;
  spaces_alone = refl;
  octal_call = refl;
  too_large_a_call = refl;
  call_below_zero = refl;
  unknown_name = refl;
  no_name = refl;
  nothing = refl;
  two_names = refl;
  left_open = refl;
  behind = refl;
  closed_twice = refl;
  opened_twice = refl;
  octal = refl;
  no_octal = refl;
  null = refl;
  empty_last = refl;
  empty_between = refl;
  empty_both = refl;
  two_words = refl;
  sixth = refl;
  seven = refl;
  seven_wrong = refl;
  name_first = refl;
  parentheses_second = refl;
  largest = refl;
  past_the_largest = refl;
  largest_digits = refl;
  least = refl;
  below_the_least = refl;
  minus_one = refl;
  minus_digits = refl;
  minus_zero = refl;
  minus_octal = refl;
  minus_twice = refl;
  minus_alone = refl;
  plus = refl;
  zero = refl;
  zeros = refl;
  largest_octal = refl;
  past_the_largest_octal = refl;
  kind_and_mode = refl;
  name_of_zero = refl;
  number_without_a_name = refl;
  on_i386 = refl;
  not_on_x86_64 = refl;
  not_on_aarch64 = refl;
  on_aarch64 = refl;
  number_on_arm = refl;
  on_x32 = refl;
  number_on_x32 = refl;
  constants = refl;
  text = refl;
  empty_text = refl;
  left_quoted = refl;
  quoted_name = refl;
  text_and_number = refl;
  no_constant = refl;
  at_fdcwd = refl;
  small_letters = refl;
  nothing_behind = refl;
  two_constants = refl;
  both_bits = refl;
  minus_and_bits = refl;
  told = refl;
}
