-- Bounds of policies' texts that were counted by hand.
use Rattle.std.specs.Prelude.{◌≡◌, List, length, Vec}
use Rattle.std.specs.Borrow.{Bor}
use Rattle.std.specs.Global.{Global}
use Rattle.sk_policy_text.specs.declared.sentence.Range.{Range}
use Rattle.sk_policy_text.specs.declared.word.Word.{Word}
use Rattle.sk_policy_text.specs.PolicySizes.{rules_bound}
use Rattle.sk_policy_text.specs.WorkedPolicies.{only, plain, with_cases}

-- 6 for a range and 6 at the end, 6 more behind numbers of x32, and for a case 6 for each word and 1
pub record WorkedSizes : Type 0 where
  pub row : (ranges : Vec Range Global) → ranges.items ≡ only 0 1 → rules_bound (plain ranges) ≡ 12
  pub of_x32 : (ranges : Vec Range Global) → ranges.items ≡ only 0x40000001 0x40000001 → rules_bound (plain ranges) ≡ 18
  pub cases : (ranges : Vec Range Global) (words : Bor (List Word)) → ranges.items ≡ only 56 56 → length words.now ≡ 7
      → rules_bound (with_cases ranges words) ≡ 55
