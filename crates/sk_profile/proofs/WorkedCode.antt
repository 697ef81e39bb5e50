-- Each worked code is what the definition computes.
use Rattle.std.proofs.Common.{refl}
use Rattle.sk_insn.specs.Operations.{operation_of}
use Rattle.sk_profile.specs.WorkedCode.{WorkedCode}

pub worked_code : WorkedCode
unfolding operation_of
worked_code = record {
  joined = refl;
  joined_narrow = refl;
  finds_the_second = refl;
  finds_the_last = refl;
  misses = refl;
  misses_by_the_upper_half = refl;
  single = refl;
  too_great = refl;
  heads = refl;
  long_head = refl;
  longest_head = refl;
  forks = refl;
  filter = refl;
  first_section = refl;
  second_section = refl;
  below_it = refl;
  no_section = refl;
}
