-- Each worked number is what the definition computes.
use Rattle.std.proofs.Common.{◌==◌, bit_and, refl, arith}
use Rattle.std.proofs.lemmas.Bool.{both_ways, eqb-true, eq-eqb, leb-true, ltb-true, not-true}
use Rattle.std.proofs.lemmas.Nat.{and_le_l}
use Rattle.sk_profile.specs.WorkedNumbers.{WorkedNumbers}

pub worked_numbers : WorkedNumbers
worked_numbers = record {
  below = refl;
  named = refl;
  itself = refl;
  next = refl;
  thousand = refl;
  before_x32 = refl;
  first_of_x32 = refl;
  half = refl;
  past_half = refl;
  before_bit = refl;
  bit_again = refl;
  last_of_x32 = refl;
  minus_one = refl;
  of_x32 = refl;
  other_of_x32 = refl;
  top_of_x32 = refl;
  past_x32 = refl;
  half_with_x32 = refl;
  last_with_x32 = refl;
  minus_one_of_x32 = refl;
  native_with_x32 = refl;
  only_0 = refl;
  only_1 = refl;
  said_by_default = refl;
  said_after = refl;
  another_error = refl;
  with_conditions = refl;
  no_arm = refl;
  other_arm = refl;
  plain_goes_first = refl;
  on_x86_64 = refl;
  on_i386 = refl;
  not_on_i386 = refl;
  not_on_x86_64 = refl;
  on_arm = refl;
  of_no_x32 = refl;
  wide = refl;
  wide_one = refl;
  of_i386 = refl;
  of_i386_too = refl;
  low_of_x32 = refl;
  equal = refl;
  not_equal = refl;
  less = refl;
  less_or_equal = refl;
  greater = refl;
  greater_or_equal = refl;
  masked_equal = refl;
  masked_unequal = refl;
  at_most_and_above = λ n one other. let a = leb-true n 5 one in let b = ltb-true 5 n other in absurd (omega (arith, a, b));
  two_masks = λ n one other. let a = eqb-true (bit_and n 1) 0 one in let b = eqb-true (bit_and n 1) 1 other in absurd (omega (arith, a, b));
  below_and_not = λ n one other. let a = ltb-true n 1 one in both_ways (n == 0) (not-true (n == 0) other) (eq-eqb n 0 (omega (arith, a)));
  mask_and_below = λ n one other. let a = eqb-true (bit_and n 0xf0) 0x10 one in let b = and_le_l n 0xf0 in let c = ltb-true n 0x10 other in absurd (omega (arith, a, b, c));
  meets_mask = refl;
  meets_below = refl;
  not_runc = refl;
  not_runc_half = refl;
  not_runc_minus_one = refl;
}
