use Rattle.std.proofs.Common.{refl}
use Rattle.sk_text.specs.Numbers.{number_of}
use Rattle.sk_text.specs.Words.{is_letter, is_name_byte, is_name}
use Rattle.sk_text.proofs.examples.example_words.Goals as goal

pub returns : goal.returns
unfolding number_of is_letter is_name_byte is_name
returns c = record {
  decimal = refl;
  hexadecimal = refl;
  large = refl;
  no_digit = refl;
  upper_case = refl;
  sign = refl;
  name = refl;
  digit_first = refl;
  longest = refl;
  too_long = refl;
}
