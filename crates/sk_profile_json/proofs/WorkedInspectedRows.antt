-- What was worked out of docker's text of a container is what the definitions compute.
use Rattle.std.proofs.Common.{refl}
use Rattle.json.proofs.OnLiterals.{json_on_literals}
use Rattle.sk_text.specs.Numbers.{number_of}
use Rattle.sk_names.specs.Names.{number_at, number_in, runs_of, number_on}
use Rattle.sk_names.specs.X86_64.{name_of, number_named}
use Rattle.sk_filter.specs.Errors.{error_number}
use Rattle.sk_profile_json.specs.WorkedInspected.{WorkedInspected}

pub worked_inspected : WorkedInspected
unfolding json_on_literals number_of name_of number_named number_at number_in runs_of number_on error_number
worked_inspected = record {
  one = refl;
  its_profile = refl;
  the_last = refl;
  the_last_is_unconfined = refl;
  by_a_colon = refl;
  cut_at_the_equals_sign = refl;
  with_an_equals_sign = refl;
  builtin = refl;
  no_text = refl;
  no_option = refl;
  others_alone = refl;
  null_options = refl;
  a_path = refl;
  two_containers = refl;
  no_container = refl;
  no_list = refl;
  an_image = refl;
  is_one = refl;
  with_blanks = refl;
  of_numbers = refl;
  of_strace = refl;
  of_empty_objects = refl;
  of_lists = refl;
  of_texts = refl;
  raw = refl;
  unsaid_text = refl;
  builtin_text = refl;
  unconfined_text = refl;
  other_text = refl;
}
