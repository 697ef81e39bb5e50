-- The instructions of a policy. Those of a condition end by going on so many instructions behind them where it holds, and so
-- many behind them where it does not.
use Rattle.std.specs.Prelude.{ℕ, ◌+◌, ◌*◌, ◌==◌, ◌&&◌, ◌||◌, not, nat_le, Bool, true, if◌then◌else◌, List, [], ◌∷◌, ◌++◌, length}
use Rattle.std.specs.List.{list_all}
use Rattle.sk_insn.specs.declared.insn.Insn.{Insn}
use Rattle.sk_insn.specs.declared.operation.Comparison.{Comparison}
use Rattle.sk_insn.specs.declared.operation.Comparison.TheVariants.{Equal, Greater, GreaterOrEqual}
use Rattle.sk_profile.specs.Code.{load, with, branch, jump, answer, high}
use Rattle.sk_profile.specs.Sayings.{low}
use Rattle.sk_terms.specs.declared.choices.Choice.{Choice}
use Rattle.sk_terms.specs.declared.term.Register.{Register}
use Rattle.sk_terms.specs.declared.term.Register.TheVariants.{Number, Pointer, Argument}
use Rattle.sk_terms.specs.declared.term.Term.{Term}
use Rattle.sk_terms.specs.Terms.{is_equality}
use Rattle.sk_policy.specs.declared.cases.Case.{Case}
use Rattle.sk_policy.specs.declared.test.Test.{Test}
use Rattle.sk_policy.specs.declared.test.Test.TheVariants.{Is, Above, AtLeast}

abbrev pub comparison_of : Test → Comparison
comparison_of Is = Equal
comparison_of Above = Greater
comparison_of AtLeast = GreaterOrEqual

-- where the halves of a register stand in the record; a call's number has no upper half
abbrev pub low_place : Register → ℕ
low_place Number = 0
low_place Pointer = 8
low_place (Argument i) = 16 + 8 * i

abbrev pub high_place : Register → ℕ
high_place Number = 0
high_place Pointer = 12
high_place (Argument i) = 20 + 8 * i

-- these bits of A are kept
abbrev pub kept_code : ℕ → List Insn
kept_code mask = if mask == 0xffffffff then [] else with mask ∷ []

abbrev pub word_code : ℕ → ℕ → List Insn
word_code place mask = load place ∷ kept_code mask

-- the lower half is compared
abbrev pub low_code : Test → Register → ℕ → ℕ → ℕ → ℕ → List Insn
low_code test register mask n held failed =
    word_code (low_place register) (low mask) ++ branch (comparison_of test) (low n) held failed ∷ []

-- so is the upper half, which A holds, before so many instructions that compare the lower one
abbrev pub high_code : Test → ℕ → ℕ → ℕ → ℕ → List Insn
high_code Is n behind held failed = branch Equal n 0 (behind + failed) ∷ []
high_code test n behind held failed = branch Greater n (1 + behind + held) 0 ∷ branch Equal n 0 (behind + failed) ∷ []

abbrev pub wide_code : Test → Register → ℕ → ℕ → ℕ → ℕ → List Insn
wide_code test register mask n held failed =
    word_code (high_place register) (high mask)
    ++ (high_code test (high n) (length (low_code test register mask n held failed)) held failed ++ low_code test register mask n held failed)

-- the upper half of the bits is always 0
abbrev pub is_narrow : Register → ℕ → Bool
is_narrow Number mask = true
is_narrow register mask = high mask == 0

-- some bits of a register are compared with a number
abbrev pub test_code : Test → Register → ℕ → ℕ → ℕ → ℕ → List Insn
test_code test register mask n held failed =
    if is_narrow register mask then (if high n == 0 then low_code test register mask n held failed else jump failed ∷ [])
    else wide_code test register mask n held failed

-- the bits are compared with both bounds
abbrev pub bounds_code : Term → ℕ → ℕ → List Insn
bounds_code term held failed =
    test_code AtLeast term.register term.mask term.first 0 (length (test_code Above term.register term.mask term.last failed held) + failed)
    ++ test_code Above term.register term.mask term.last failed held

-- the number of the bits lies in the range
abbrev pub range_code : Term → ℕ → ℕ → List Insn
range_code term held failed =
    if term.first == term.last then test_code Is term.register term.mask term.first held failed
    else if term.first == 0 then test_code Above term.register term.mask term.last failed held
    else if nat_le term.mask term.last then test_code AtLeast term.register term.mask term.first held failed
    else bounds_code term held failed

-- the term holds
unfoldable pub term_code : Term → ℕ → ℕ → List Insn
term_code term held failed = if term.inside then range_code term held failed else range_code term failed held

-- two jumps stand behind the term where a place is further on than its conditional jumps reach
unfoldable pub placed_code : Term → ℕ → ℕ → List Insn
placed_code term held failed =
    if nat_le held 200 && nat_le failed 200 then term_code term held failed
    else term_code term 0 1 ++ jump (1 + held) ∷ jump failed ∷ []

-- one of the terms holds, each of which is asked by itself; of none at all none does
abbrev pub choice_from : Term → List Term → ℕ → ℕ → List Insn
choice_from term [] held failed = placed_code term held failed
choice_from term (other ∷ terms) held failed =
    placed_code term (length (choice_from other terms held failed) + held) 0 ++ choice_from other terms held failed

abbrev pub terms_code : List Term → ℕ → ℕ → List Insn
terms_code [] held failed = jump failed ∷ []
terms_code (term ∷ terms) held failed = choice_from term terms held failed

-- ---- terms that ask for numbers of the same bits: each word is loaded once for all of them

-- the term asks, as the first one does, whether the bits are a number, and the numbers have one upper half
abbrev pub is_alike : Term → Term → Bool
is_alike first term =
    is_equality term && ((low_place term.register == low_place first.register) && ((term.mask == first.mask) && (high term.first == high first.first)))

-- some terms are so, the bits can be their numbers, and conditional jumps reach the places
abbrev pub are_joined : Term → List Term → ℕ → ℕ → Bool
are_joined first terms held failed =
    (not (is_narrow first.register first.mask) || (high first.first == 0))
    && (nat_le 2 (length terms) && (nat_le (held + length terms) 200 && (nat_le (failed + length terms) 200 && list_all (is_alike first) terms)))

-- A is the lower half of one of the numbers
abbrev pub equals_from : Term → List Term → ℕ → ℕ → List Insn
equals_from term [] held failed = branch Equal (low term.first) held failed ∷ []
equals_from term (other ∷ terms) held failed =
    branch Equal (low term.first) (length (equals_from other terms held failed) + held) 0 ∷ equals_from other terms held failed

abbrev pub equals_code : List Term → ℕ → ℕ → List Insn
equals_code [] held failed = []
equals_code (term ∷ terms) held failed = equals_from term terms held failed

abbrev pub lower_code : Term → List Term → ℕ → ℕ → List Insn
lower_code first terms held failed = word_code (low_place first.register) (low first.mask) ++ equals_code terms held failed

-- the bits are one of the numbers
unfoldable pub joined_code : Term → List Term → ℕ → ℕ → List Insn
joined_code first terms held failed =
    if is_narrow first.register first.mask then lower_code first terms held failed
    else word_code (high_place first.register) (high first.mask)
    ++ (branch Equal (high first.first) 0 (length (lower_code first terms held failed) + failed) ∷ lower_code first terms held failed)

-- one of the terms holds
abbrev pub choice_code : List Term → ℕ → ℕ → List Insn
choice_code [] held failed = jump failed ∷ []
choice_code (term ∷ terms) held failed =
    if are_joined term (term ∷ terms) held failed then joined_code term (term ∷ terms) held failed else choice_from term terms held failed

-- of each choice one of the terms holds; where there is no choice, always
abbrev pub line_from : Choice → List Choice → ℕ → ℕ → List Insn
line_from choice [] held failed = choice_code choice.terms.items held failed
line_from choice (other ∷ choices) held failed =
    choice_code choice.terms.items 0 (length (line_from other choices held failed) + failed) ++ line_from other choices held failed

abbrev pub line_code : List Choice → ℕ → ℕ → List Insn
line_code [] held failed = jump held ∷ []
line_code (choice ∷ choices) held failed = line_from choice choices held failed

-- each condition stands before its value, which is passed over where a call does not meet it
abbrev pub cases_code : List Case → ℕ → List Insn
cases_code [] otherwise = answer otherwise ∷ []
cases_code (first ∷ cases) otherwise = line_code first.choices.items 0 1 ++ (answer first.value ∷ cases_code cases otherwise)

-- so many instructions are passed over where A is not below the number
abbrev pub head_code : ℕ → ℕ → List Insn
head_code number below =
    if nat_le below 255 then branch GreaterOrEqual number below 0 ∷ [] else branch GreaterOrEqual number 0 1 ∷ jump below ∷ []
