-- The texts of profiles are what the definitions compute.
use Rattle.std.proofs.Common.{refl}
use Rattle.json.proofs.OnLiterals.{json_on_literals}
use Rattle.json.specs.Layout.{pretty_from}
use Rattle.sk_text.specs.Numbers.{number_of}
use Rattle.sk_names.specs.Names.{name_on, number_at, number_in, runs_of, number_on}
use Rattle.sk_names.specs.X86_64.{name_of, number_named}
use Rattle.sk_filter.specs.Errors.{error_number}
use Rattle.sk_profile_json.specs.WorkedWriting.{WorkedWriting}

pub worked_writing : WorkedWriting
unfolding json_on_literals pretty_from number_of name_of name_on number_named number_at number_in runs_of number_on error_number
worked_writing = record {
  two = refl;
  none = refl;
  two_read = refl;
  none_read = refl;
  entry = refl;
  default = refl;
  allowed = refl;
  refused = refl;
  no_call_refused = refl;
  passed_over = refl;
  x32 = refl;
  i386 = refl;
  all_named = refl;
  gap = refl;
  of_x32 = refl;
}
