use Rattle.std.proofs.Common.{◌≤◌, map, sym, subst, rules}
use Rattle.std.specs.Prelude.{All, IsPermutation}
use Rattle.std.proofs.lemmas.List.Sorted.{IsPermutation-map, All-permutation, IsNonDecreasingBy-from_sort_by_key}
use Rattle.sk_policy_text.specs.declared.draft.Span.{Span}
use Rattle.sk_policy_text.specs.PolicyRows.{Part}
use Rattle.sk_policy_text.specs.PolicyRanges.{part_of}
use Rattle.sk_policy_text.proofs.Ranging.{rise_of}
use Rattle.sk_policy_text.proofs.Standing.{some_numbers}
use Rattle.sk_policy_text.proofs.draft.sorted_spans.Goals as goal

pub returns-clause-parts : goal.returns-clause-parts
returns-clause-parts c =
    subst (λ parts. IsPermutation parts (map part_of c.sort_by_key.new.self.items)) c.in_ok-spans.ensures.parts
    (IsPermutation-map part_of _ _ c.sort_by_key.ensures.permutation)

pub returns-clause-rise : goal.returns-clause-rise
returns-clause-rise c =
    let some = subst (All (λ (part : Part). part.first ≤ part.last)) (sym c.in_ok-spans.ensures.parts) (some_numbers c.args.text.now) in
    rise_of _ (IsNonDecreasingBy-from_sort_by_key (λ (span : Span). span.first) _ c.in_ok-sort_by_key.ensures.sorted (λ a r q k. search rules))
    (All-permutation (λ (part : Part). part.first ≤ part.last) _ _ (IsPermutation-map part_of _ _ c.sort_by_key.ensures.permutation) some)
