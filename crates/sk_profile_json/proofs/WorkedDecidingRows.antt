-- What decides on each worked call is what the definitions compute.
use Rattle.std.proofs.Common.{refl}
use Rattle.json.proofs.OnLiterals.{json_on_literals}
use Rattle.sk_text.specs.Numbers.{number_of}
use Rattle.sk_names.specs.Names.{number_at, number_in, runs_of, number_on}
use Rattle.sk_names.specs.X86_64.{name_of, number_named}
use Rattle.sk_filter.specs.Errors.{error_number}
use Rattle.sk_profile_json.specs.WorkedDeciding.{WorkedDeciding}

pub worked_deciding : WorkedDeciding
unfolding json_on_literals number_of name_of number_named number_at number_in runs_of number_on error_number
worked_deciding = record {
  read = refl;
  linux = refl;
  linux32 = refl;
  other_personality = refl;
  same_namespace = refl;
  new_namespace = refl;
  refused = refl;
  unnamed = refl;
  x32 = refl;
  i386 = refl;
  goes_first = refl;
  dropped = refl;
  condition = refl;
  narrow = refl;
  wide = refl;
  no_call = refl;
}
