-- Each worked path is what the definition computes.
use Rattle.std.proofs.Common.{refl}
use Rattle.std.specs.Fmt.{digits}
use Rattle.hex.specs.Hex.{encode_with}
use Rattle.sk_text.specs.Hexadecimal.{hex_half, hex_word}
use Rattle.sk_insn.specs.Actions.{action_of}
use Rattle.sk_insn.specs.Operations.{operation_of}
use Rattle.sk_names.specs.X86_64.{name_of}
use Rattle.sk_names.specs.Names.{name_at, name_in, name_on, runs_of}
use Rattle.sk_asm.specs.Listing.{words_for}
use Rattle.sk_filter.specs.Errors.{error_named}
use Rattle.sk_filter.specs.VerdictText.{verdict_text}
use Rattle.sk_show.specs.PathText.{compared_text, filter_text, step_text}
use Rattle.sk_show.specs.WorkedPaths.{WorkedPaths}

pub worked_paths : WorkedPaths
unfolding words_for operation_of hex_word hex_half encode_with digits name_of name_at name_in name_on runs_of action_of error_named verdict_text compared_text step_text filter_text
worked_paths = record {
  passes_over_the_other_side = refl;
  refuses = refl;
  passes_others = refl;
  names_what_the_number_is_compared_with = refl;
  names_calls_of_the_architecture = refl;
  is_equal = refl;
  is_another = refl;
  is_greater = refl;
  is_not_greater = refl;
  is_at_least = refl;
  is_less = refl;
  has_a_bit = refl;
  has_none = refl;
  names_none_without_the_bit_of_x32 = refl;
  names_one_with_it = refl;
  ends_at_a_division_by_zero = refl;
  newest_first = refl;
  by_the_newest = refl;
  by_none = refl;
}
