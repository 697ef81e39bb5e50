-- How many instructions the code has at most.
use Rattle.std.proofs.Common.{◌≡◌, ℕ, zero, suc, ◌+◌, ◌*◌, ◌<◌, ◌≤◌, ◌==◌, ◌&&◌, Bool, true, false, if◌then◌else◌, nat_le, List, [], ◌∷◌, ◌++◌, length, get_or, take, drop, refl, ap, arith, length-append}
use Rattle.std.proofs.lemmas.Bool.{le-ltb}
use Rattle.sk_insn.specs.declared.insn.Insn.{Insn}
use Rattle.sk_insn.specs.declared.operation.Comparison.TheVariants.{Equal}
use Rattle.sk_profile.specs.Code.{with, branch, jump, answer, high}
use Rattle.sk_profile.specs.Sayings.{low}
use Rattle.sk_terms.specs.declared.choices.Choice.{Choice}
use Rattle.sk_terms.specs.declared.term.Register.{Register}
use Rattle.sk_terms.specs.declared.term.Term.{Term}
use Rattle.sk_policy.specs.declared.cases.Case.{Case}
use Rattle.sk_policy.specs.declared.policy.Rule.{Rule}
use Rattle.sk_policy.specs.declared.test.Test.{Test}
use Rattle.sk_policy.specs.declared.test.Test.TheVariants.{Is, Above, AtLeast}
use Rattle.sk_policy.specs.Code.{comparison_of, low_place, high_place, kept_code, word_code, low_code, high_code, wide_code, is_narrow, test_code, bounds_code, range_code, term_code, placed_code, choice_from, are_joined, equals_from, lower_code, joined_code, choice_code, line_from, line_code, cases_code}
use Rattle.sk_policy.specs.Sizes.{line_most, cases_most, rules_most, gap_most}

kept_few : (mask : ℕ) → length (kept_code mask) ≤ 1
kept_few mask = by (mask == 0xffffffff) where
  by : (b : Bool) → length (if b then [] else with mask ∷ []) ≤ 1
  by true = omega arith
  by false = omega arith

low_few : (test : Test) (r : Register) (mask n held failed : ℕ) → length (low_code test r mask n held failed) ≤ 3
low_few test r mask n held failed =
    omega (arith, kept_few (low mask), length-append (word_code (low_place r) (low mask)) (branch (comparison_of test) (low n) held failed ∷ []))

high_few : (test : Test) (n l held failed : ℕ) → length (high_code test n l held failed) ≤ 2
high_few Is n l held failed = omega arith
high_few Above n l held failed = omega arith
high_few AtLeast n l held failed = omega arith

wide_few : (test : Test) (r : Register) (mask n held failed : ℕ) → length (wide_code test r mask n held failed) ≤ 7
wide_few test r mask n held failed =
    let lower = low_code test r mask n held failed in
    let upper = high_code test (high n) (length lower) held failed in
    omega (arith, kept_few (high mask), low_few test r mask n held failed, high_few test (high n) (length lower) held failed, length-append (word_code (high_place r) (high mask)) (upper ++ lower), length-append upper lower)

test_few : (test : Test) (r : Register) (mask n held failed : ℕ) → length (test_code test r mask n held failed) ≤ 7
test_few test r mask n held failed = by (is_narrow r mask) (high n == 0) where
  by : (b c : Bool) → length (if b then (if c then low_code test r mask n held failed else jump failed ∷ []) else wide_code test r mask n held failed) ≤ 7
  by true true = let few = low_few test r mask n held failed in omega (arith, few)
  by true false = omega arith
  by false c = wide_few test r mask n held failed

range_few : (term : Term) (held failed : ℕ) → length (range_code term held failed) ≤ 14
range_few term held failed = by (term.first == term.last) (term.first == 0) (nat_le term.mask term.last) where
  by : (b c d : Bool) → length (if b then test_code Is term.register term.mask term.first held failed
      else if c then test_code Above term.register term.mask term.last failed held
      else if d then test_code AtLeast term.register term.mask term.first held failed
      else bounds_code term held failed) ≤ 14
  by true c d = let few = test_few Is term.register term.mask term.first held failed in omega (arith, few)
  by false true d = let few = test_few Above term.register term.mask term.last failed held in omega (arith, few)
  by false false true = let few = test_few AtLeast term.register term.mask term.first held failed in omega (arith, few)
  by false false false =
      let second = test_code Above term.register term.mask term.last failed held in
      let one = test_few AtLeast term.register term.mask term.first 0 (length second + failed) in
      let other = test_few Above term.register term.mask term.last failed held in
      omega (arith, one, other, length-append (test_code AtLeast term.register term.mask term.first 0 (length second + failed)) second)

term_few : (term : Term) (held failed : ℕ) → length (term_code term held failed) ≤ 14
unfolding term_code
term_few term held failed = by term.inside where
  by : (b : Bool) → length (if b then range_code term held failed else range_code term failed held) ≤ 14
  by true = range_few term held failed
  by false = range_few term failed held

placed_few : (term : Term) (held failed : ℕ) → length (placed_code term held failed) ≤ 16
unfolding placed_code
placed_few term held failed = by (nat_le held 200 && nat_le failed 200) where
  by : (b : Bool) → length (if b then term_code term held failed else term_code term 0 1 ++ jump (1 + held) ∷ jump failed ∷ []) ≤ 16
  by true = let few = term_few term held failed in omega (arith, few)
  by false = let few = term_few term 0 1 in omega (arith, few, length-append (term_code term 0 1) (jump (1 + held) ∷ jump failed ∷ []))

choice_from_few : (term : Term) (terms : List Term) (held failed : ℕ) → length (choice_from term terms held failed) ≤ 16 * length (term ∷ terms)
choice_from_few term [] held failed = let few = placed_few term held failed in omega (arith, few)
choice_from_few term (other ∷ terms) held failed =
    let rest = choice_from other terms held failed in
    let few = placed_few term (length rest + held) 0 in
    omega (arith, few, choice_from_few other terms held failed, length-append (placed_code term (length rest + held) 0) rest)

equals_few : (term : Term) (terms : List Term) (held failed : ℕ) → length (equals_from term terms held failed) ≤ length (term ∷ terms)
equals_few term [] held failed = omega arith
equals_few term (other ∷ terms) held failed = omega (arith, equals_few other terms held failed)

lower_few : (first term : Term) (terms : List Term) (held failed : ℕ) → length (lower_code first (term ∷ terms) held failed) ≤ 2 + length (term ∷ terms)
lower_few first term terms held failed =
    omega (arith, kept_few (low first.mask), equals_few term terms held failed, length-append (word_code (low_place first.register) (low first.mask)) (equals_from term terms held failed))

joined_few : (first term : Term) (terms : List Term) (held failed : ℕ) → length (joined_code first (term ∷ terms) held failed) ≤ 5 + length (term ∷ terms)
unfolding joined_code
joined_few first term terms held failed = by (is_narrow first.register first.mask) where
  lower : List Insn
  lower = lower_code first (term ∷ terms) held failed

  by : (b : Bool) → length (if b then lower_code first (term ∷ terms) held failed
      else word_code (high_place first.register) (high first.mask)
      ++ (branch Equal (high first.first) 0 (length (lower_code first (term ∷ terms) held failed) + failed) ∷ lower_code first (term ∷ terms) held failed)) ≤ 5 + length (term ∷ terms)
  by true = let few = lower_few first term terms held failed in omega (arith, few)
  by false =
      let few = lower_few first term terms held failed in
      omega (arith, few, kept_few (high first.mask), length-append (word_code (high_place first.register) (high first.mask)) (branch Equal (high first.first) 0 (length lower + failed) ∷ lower))

choice_few : (terms : List Term) (held failed : ℕ) → length (choice_code terms held failed) ≤ 1 + 16 * length terms
choice_few [] held failed = omega arith
choice_few (term ∷ terms) held failed = by (are_joined term (term ∷ terms) held failed) where
  by : (b : Bool) → length (if b then joined_code term (term ∷ terms) held failed else choice_from term terms held failed) ≤ 1 + 16 * length (term ∷ terms)
  by true = let few = joined_few term term terms held failed in omega (arith, few)
  by false = let few = choice_from_few term terms held failed in omega (arith, few)

line_from_few : (choice : Choice) (choices : List Choice) (held failed : ℕ) → length (line_from choice choices held failed) ≤ line_most (choice ∷ choices)
line_from_few choice [] held failed = let few = choice_few choice.terms.items held failed in omega (arith, few)
line_from_few choice (other ∷ choices) held failed =
    let rest = line_from other choices held failed in
    let few = choice_few choice.terms.items 0 (length rest + failed) in
    omega (arith, few, line_from_few other choices held failed, length-append (choice_code choice.terms.items 0 (length rest + failed)) rest)

line_few : (choices : List Choice) (held failed : ℕ) → length (line_code choices held failed) ≤ line_most choices
line_few [] held failed = omega arith
line_few (choice ∷ choices) held failed = line_from_few choice choices held failed

pub cases_few : (cases : List Case) (otherwise : ℕ) → length (cases_code cases otherwise) ≤ cases_most cases
cases_few [] otherwise = omega arith
cases_few (first ∷ cases) otherwise =
    let few = line_few first.choices.items 0 1 in
    omega (arith, few, cases_few cases otherwise, length-append (line_code first.choices.items 0 1) (answer first.value ∷ cases_code cases otherwise))

pub cases_put : (cases : List Case) (otherwise : ℕ) (old new : List Insn) → new ≡ cases_code cases otherwise ++ old → length new ≤ length old + cases_most cases
cases_put cases otherwise old new is = omega (arith, ap length is, length-append (cases_code cases otherwise) old, cases_few cases otherwise)

pub cases_over : (cases : List Case) (otherwise : ℕ) (old : List Insn) → 4096 < length (cases_code cases otherwise ++ old) → 4096 < length old + cases_most cases
cases_over cases otherwise old over = omega (arith, over, length-append (cases_code cases otherwise) old, cases_few cases otherwise)

-- both parts of rules
pub both_most : (n : ℕ) (rules : List Rule) → rules_most (take n rules) + rules_most (drop n rules) ≡ rules_most rules
both_most zero rules = omega arith
both_most (suc n) [] = omega arith
both_most (suc n) (rule ∷ rules) = omega (arith, both_most n rules)

pub no_gap : (n : ℕ) (rules : List Rule) (d : Rule) → n < length rules → gap_most (get_or rules n d).first (drop n rules) ≡ 0
no_gap n [] d inside = absurd (omega (arith, inside))
no_gap zero (rule ∷ rules) d inside = rw (le-ltb rule.first rule.first (omega arith)) refl
no_gap (suc n) (rule ∷ rules) d inside = no_gap n rules d (omega (arith, inside))

pub still_none : (n : ℕ) (rules : List Rule) (start : ℕ) → 0 < n → n < length rules → gap_most start (take n rules) ≡ gap_most start rules
still_none zero rules start some inside = absurd (omega (arith, some))
still_none (suc n) [] start some inside = absurd (omega (arith, inside))
still_none (suc n) (rule ∷ rules) start some inside = refl
