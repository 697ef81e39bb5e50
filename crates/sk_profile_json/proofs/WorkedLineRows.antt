-- The line of each worked entry is what the definitions compute.
use Rattle.std.proofs.Common.{refl}
use Rattle.json.proofs.OnLiterals.{json_on_literals}
use Rattle.sk_profile_json.specs.WorkedLines.{WorkedLines}

pub worked_lines : WorkedLines
unfolding json_on_literals
worked_lines = record {
  first = refl;
  second = refl;
  alike = refl;
  fourth = refl;
  in_one_line = refl;
  none = refl;
  in_linux = refl;
  in_spec = refl;
  of_docker = refl;
  no_entries = refl;
  no_object = refl;
  its_entries = refl;
}
