-- Each worked parting is what the definitions compute.
use Rattle.std.proofs.Common.{refl}
use Rattle.json.proofs.OnLiterals.{json_on_literals}
use Rattle.sk_text.specs.Numbers.{number_of}
use Rattle.sk_names.specs.Names.{number_at, number_in, runs_of, number_on}
use Rattle.sk_names.specs.X86_64.{name_of, number_named}
use Rattle.sk_filter.specs.Errors.{error_number}
use Rattle.sk_profile_json.specs.WorkedPartings.{WorkedPartings}

pub worked_partings : WorkedPartings
unfolding json_on_literals number_of name_of number_named number_at number_in runs_of number_on error_number
worked_partings = record {
  vsock = refl;
  another_family = refl;
  lower_halves_alone = refl;
  by_mask = refl;
  audit_by_family = refl;
  audit_by_protocol = refl;
  other_protocol = refl;
  equal = refl;
  minus_one = refl;
  masked = refl;
  upper_half = refl;
  unequal = refl;
  less = refl;
}
