-- Each worked file is what the definitions compute.
use Rattle.std.proofs.Common.{refl}
use Rattle.json.proofs.OnLiterals.{json_on_literals}
use Rattle.sk_text.specs.Numbers.{number_of}
use Rattle.sk_names.specs.Names.{name_at, number_at, name_in, number_in, runs_of, name_on, number_on}
use Rattle.sk_names.specs.X86_64.{name_of, number_named}
use Rattle.sk_names.specs.Elsewhere.{is_elsewhere}
use Rattle.sk_filter.specs.Errors.{error_number}
use Rattle.sk_profile_json.specs.Capabilities.{capability}
use Rattle.sk_profile_json.specs.WorkedFiles.{WorkedFiles}

pub worked_files : WorkedFiles
unfolding json_on_literals number_of name_of number_named number_at number_in runs_of number_on name_at name_in name_on is_elsewhere error_number capability
worked_files = record {
  all_by_name = refl;
  docker_by_name = refl;
  unknown_name = refl;
  no_rule_of_it = refl;
  held = refl;
  by_its_name = refl;
  all_held = refl;
  none_held = refl;
  another_held = refl;
  docker_holds_others = refl;
  from_it = refl;
  before_it = refl;
  after_it = refl;
  the_newest = refl;
  nothing_to_tell = refl;
  both_parts = refl;
  one_part = refl;
  no_other = refl;
  on_x86_64 = refl;
  on_x32 = refl;
  on_i386 = refl;
  an_object = refl;
  a_list = refl;
  empty = refl;
  raw = refl;
}
