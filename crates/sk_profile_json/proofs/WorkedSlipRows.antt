-- Each slip that was worked out is what the definition computes.
use Rattle.std.proofs.Common.{refl}
use Rattle.sk_profile_json.specs.Slips.{slip_of}
use Rattle.sk_profile_json.specs.WorkedSlips.{WorkedSlips}

pub worked_slips : WorkedSlips
unfolding slip_of
worked_slips = record {
  comma_in_object = refl;
  comma_in_list = refl;
  comma_and_blanks = refl;
  the_first_of_two = refl;
  no_blank = refl;
  comment_to_the_end = refl;
  comment_between = refl;
  comment_of_shells = refl;
  comment_behind_a_comma = refl;
  at_the_beginning = refl;
  at_the_end = refl;
  in_a_string = refl;
  behind_a_quote = refl;
  not_closed = refl;
  not_closed_behind_an_escape = refl;
  bytes_count = refl;
  one_slash = refl;
  a_mistyped_word = refl;
  two_commas = refl;
  empty = refl;
  comma_text = refl;
  comment_text = refl;
  other_text = refl;
}
