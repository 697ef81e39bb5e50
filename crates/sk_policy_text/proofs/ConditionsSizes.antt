-- How many instructions the choices of a condition take at most.
use Rattle.std.proofs.Common.{◌≡◌, ℕ, ◌≤◌, ◌+◌, ◌*◌, List, [], ◌∷◌, length, map, refl, ap, arith}
use Rattle.std.proofs.lemmas.List.{length-append}
use Rattle.sk_terms.specs.declared.choices.Choice.{Choice}
use Rattle.sk_terms.specs.declared.term.Term.{Term}
use Rattle.sk_policy.specs.Sizes.{line_most}
use Rattle.sk_policy_text.specs.declared.token.Token.{Token}
use Rattle.sk_policy_text.specs.declared.token.Token.TheVariants as token
use Rattle.sk_policy_text.specs.Conditions.{Value, Alone, AnyOf, value_words, or_words, Factor, Plain, Complement, factor_words, and_words, Side, Whole, Masked, side_words, Comparison, BitsFirst, ValueFirst, comparison_words, from, up_to, Alternative, One, Range, Brackets, Alternatives, Last, Either, alternative_words, alternatives_words, Condition, Always, Never, Some as some_of, Each, each_words, condition_words}
use Rattle.sk_policy_text.specs.ConditionsReading.{terms_of, terms_of_all, lists_of, choices_of, IsCondition}

-- ---- how many words there are at least

numbers_long : (numbers : List ℕ) (rest : List Token) → length rest ≤ length (or_words numbers rest)
numbers_long [] rest = omega arith
numbers_long (n ∷ numbers) rest = omega (arith, numbers_long numbers rest)

value_long : (value : Value) (rest : List Token) → length rest + 1 ≤ length (value_words value rest)
value_long (Alone n) rest = omega arith
value_long (AnyOf n numbers) rest = omega (arith, numbers_long numbers (token.Close ∷ rest))

factor_long : (factor : Factor) (rest : List Token) → length rest + 1 ≤ length (factor_words factor rest)
factor_long (Plain value) rest = value_long value rest
factor_long (Complement value small) rest = omega (arith, value_long value rest)

factors_long : (factors : List Factor) (rest : List Token) → length rest ≤ length (and_words factors rest)
factors_long [] rest = omega arith
factors_long (factor ∷ factors) rest = omega (arith, factor_long factor (and_words factors rest), factors_long factors rest)

side_long : (side : Side) (rest : List Token) → length rest + 1 ≤ length (side_words side rest)
side_long (Whole register there) rest = omega arith
side_long (Masked register there factor factors) rest = omega (arith, factors_long (factor ∷ factors) (token.Close ∷ rest))

comparison_long : (it : Comparison) (rest : List Token) → length rest + 3 ≤ length (comparison_words it rest)
comparison_long (BitsFirst side relation value) rest =
    let behind = token.Compare relation ∷ value_words value rest in
    omega (arith, side_long side behind, value_long value rest)
comparison_long (ValueFirst value relation side) rest =
    let behind = token.Compare relation ∷ side_words side rest in
    omega (arith, value_long value behind, side_long side rest)

range_long : (first last : Value) (one other : Side) (rest : List Token)
    → length rest + 3 ≤ length (comparison_words (from first one) (token.And ∷ comparison_words (up_to other last) (token.Close ∷ rest)))
range_long first last one other rest =
    let behind = comparison_words (up_to other last) (token.Close ∷ rest) in
    omega (arith, comparison_long (from first one) (token.And ∷ behind), comparison_long (up_to other last) (token.Close ∷ rest))

-- each term takes three words, and one stands between two
mutual
  alternative_long : (it : Alternative) (rest : List Token) → 4 * length (terms_of it) + length rest ≤ length (alternative_words it rest) + 1
  alternative_long (One comparison) rest = omega (arith, comparison_long comparison rest)
  alternative_long (Range first one other last alike) rest = omega (arith, range_long first last one other rest)
  alternative_long (Brackets inside) rest = omega (arith, alternatives_long inside (token.Close ∷ rest))

  alternatives_long : (all : Alternatives) (rest : List Token) → 4 * length (terms_of_all all) + length rest ≤ length (alternatives_words all rest) + 1
  alternatives_long (Last it) rest = alternative_long it rest
  alternatives_long (Either it others) rest =
      let behind = token.Or ∷ alternatives_words others rest in
      omega (arith, length-append (terms_of it) (terms_of_all others), alternative_long it behind, alternatives_long others rest)

mutual
  some_terms : (it : Alternative) → 1 ≤ length (terms_of it)
  some_terms (One comparison) = omega arith
  some_terms (Range first one other last alike) = omega arith
  some_terms (Brackets inside) = some_terms_in inside

  some_terms_in : (all : Alternatives) → 1 ≤ length (terms_of_all all)
  some_terms_in (Last it) = some_terms it
  some_terms_in (Either it others) = omega (arith, length-append (terms_of it) (terms_of_all others), some_terms it)

-- ---- how many instructions

abbrev lists_most : List (List Term) → ℕ
lists_most [] = 1
lists_most (terms ∷ lists) = (1 + 16 * length terms) + lists_most lists

lists_are : (choices : List Choice) → line_most choices ≡ lists_most (lists_of choices)
lists_are [] = refl
lists_are (choice ∷ choices) = omega (arith, lists_are choices)

each_few : (written : List Alternative) → lists_most (map terms_of written) ≤ 6 * length (each_words written) + 1
each_few [] = omega arith
each_few (it ∷ others) = omega (arith, alternative_long it (each_words others), some_terms it, each_few others)

condition_few : (written : Condition) → lists_most (choices_of written) ≤ 6 * length (condition_words written)
condition_few Always = omega arith
condition_few Never = omega arith
condition_few (some_of all) = omega (arith, alternatives_long all [], some_terms_in all)
condition_few (Each first second others) =
    let behind = each_words (second ∷ others) in
    omega (arith, alternative_long first behind, some_terms first, each_few (second ∷ others))

pub choices_few : (tokens : List Token) (choices : List Choice) → IsCondition tokens choices → line_most choices ≤ 6 * length tokens
choices_few tokens choices it =
    let words = ap (λ (them : List Token). length them) it.words in
    omega (arith, lists_are choices, ap lists_most it.is, condition_few it.written, words)
