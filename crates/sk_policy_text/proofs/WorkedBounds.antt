-- Each worked bound is what the definitions compute.
use Rattle.std.proofs.Common.{◌≡◌, ◌+◌, ◌++◌, [], ◌∷◌, Some, None, ap, arith}
use Rattle.sk_policy_text.specs.declared.sentence.Sentence.TheVariants as sentence
use Rattle.sk_policy_text.specs.PolicyRows.{Part, parts_in}
use Rattle.sk_policy_text.specs.PolicySizes.{parts_bound, rules_bound}
use Rattle.sk_policy_text.specs.WorkedPolicies.{stated, with_cases}
use Rattle.sk_policy_text.specs.WorkedSizes.{WorkedSizes}
use Rattle.sk_policy_text.proofs.Bounding.{parts_cons}

pub worked_sizes : WorkedSizes
worked_sizes = record {
  row = λ ranges is. ap (λ items. parts_bound (parts_in items 2 (Some 0x7fff0000) [] ++ []) + 6) is;
  of_x32 = λ ranges is. ap (λ items. parts_bound (parts_in items 2 (Some 0x7fff0000) [] ++ []) + 6) is;
  cases = λ ranges words is seven.
      let behind = stated 2 (sentence.Case 0x7fff0000 words) ∷ stated 3 (sentence.Else 0x00050001) ∷ [] in
      let part : Part = record { first = 56; last = 56; line = 1; verdict = None; behind = behind } in
      let same : rules_bound (with_cases ranges words) ≡ parts_bound (part ∷ []) + 6 = ap (λ items. parts_bound (parts_in items 1 None behind ++ []) + 6) is in
      omega (arith, same, parts_cons part [], seven);
}
