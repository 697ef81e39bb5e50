-- How many instructions rules take at most.
use Rattle.std.proofs.Common.{◌≡◌, ℕ, ◌<◌, ◌≤◌, ◌+◌, nat_lt, List, [], ◌∷◌, ◌++◌, length, Option, Some, None, refl, inl, inr, arith}
use Rattle.std.specs.Prelude.{IsPermutation}
use Rattle.std.proofs.lemmas.Bool.{cases_Bool, lt-ltb}
use Rattle.std.proofs.lemmas.List.{length-map}
use Rattle.std.proofs.lemmas.List.Sums.{sum_by-cons}
use Rattle.std.proofs.lemmas.List.Sorted.{sum_by-IsPermutation}
use Rattle.sk_terms.specs.declared.choices.Choice.{Choice}
use Rattle.sk_policy.specs.declared.cases.Case.{Case}
use Rattle.sk_policy.specs.declared.policy.Rule.{Rule}
use Rattle.sk_policy.specs.Sizes.{line_most, cases_most, rules_most}
use Rattle.sk_policy_text.specs.declared.sentence.Sentence.{Sentence}
use Rattle.sk_policy_text.specs.declared.sentence.Sentence.TheVariants as sentence
use Rattle.sk_policy_text.specs.declared.word.Word.{Word}
use Rattle.sk_policy_text.specs.ConditionsTokens.{token_of}
use Rattle.sk_policy_text.specs.PolicyRows.{Part, sentences_of, cases_below, cases_of_row, cases_of_part, cases_in}
use Rattle.sk_policy_text.specs.PolicyFaults.{IsCaseOf}
use Rattle.sk_policy_text.specs.PolicySizes.{words_below, words_of_row, cases_bound, row_bound, gap_bound, part_bound, parts_bound}

pub parts_cons : (part : Part) (parts : List Part) → parts_bound (part ∷ parts) ≡ part_bound part + parts_bound parts
parts_cons part parts = sum_by-cons part_bound part parts

-- ---- cases

pub cases_behind : (front : List Case) (case : Case) → cases_most (front ++ case ∷ []) ≡ cases_most front + (line_most case.choices.items + 1)
cases_behind [] case = omega arith
cases_behind (first ∷ front) case = omega (arith, cases_behind front case)

pub case_few : (it : Sentence) (rest : List Sentence) (case : Case) → IsCaseOf it case → (line_most case.choices.items + 1) + cases_bound rest ≤ cases_bound (it ∷ rest)
case_few (sentence.Case verdict words) rest case is =
    let size = is.1.size in
    omega (arith, size, length-map words.now (λ (word : Word). token_of word.text.now))
case_few other rest case is = absurd is

-- ---- how many there are

words_below_few : (text : List Sentence) → words_below text ≤ cases_bound text
words_below_few [] = omega arith
words_below_few (sentence.Case verdict words ∷ rest) = omega (arith, words_below_few rest)
words_below_few (other ∷ rest) = omega arith

pub words_few : (verdict : Option ℕ) (behind : List Sentence) → words_of_row verdict behind ≤ row_bound verdict behind
words_few (Some verdict) behind = omega arith
words_few None behind = words_below_few behind

below_few : (text : List Sentence) → cases_below text ≤ cases_bound text
below_few [] = omega arith
below_few (sentence.Case verdict words ∷ rest) = omega (arith, below_few rest)
below_few (other ∷ rest) = omega arith

row_few : (verdict : Option ℕ) (behind : List Sentence) → cases_of_row verdict behind ≤ row_bound verdict behind
row_few (Some verdict) behind = omega arith
row_few None behind = below_few behind

pub cases_few : (parts : List Part) → cases_in parts ≤ parts_bound parts
cases_few [] = omega arith
cases_few (part ∷ parts) =
    omega (arith, sum_by-cons cases_of_part part parts, parts_cons part parts, row_few part.verdict (sentences_of part.behind), cases_few parts)

-- ---- rules

pub rules_behind : (front : List Rule) (rule : Rule) → rules_most (front ++ rule ∷ []) ≡ rules_most front + (5 + cases_most rule.cases.items)
rules_behind [] rule = omega arith
rules_behind (first ∷ front) rule = omega (arith, rules_behind front rule)

pub gap_few : (end : ℕ) → gap_bound end ≤ 6
gap_few end = elim (cases_Bool (nat_lt 0x40000000 end)) [ inl some ↦ rw some (omega arith) | inr none ↦ rw none (omega arith) ]

pub gap_there : (end : ℕ) → 0x40000000 < end → gap_bound end ≡ 6
gap_there end above = rw (lt-ltb 0x40000000 end above) refl

pub bound_moved : (parts moved : List Part) → IsPermutation parts moved → parts_bound moved ≡ parts_bound parts
bound_moved parts moved same = sum_by-IsPermutation part_bound parts moved same
