-- The code of a policy is a valid program: its loads are of words of the record, and its jumps stay inside.
use Rattle.std.proofs.Common.{◌≡◌, ℕ, ◌+◌, ◌*◌, ◌<◌, ◌≤◌, ◌==◌, ◌&&◌, Bool, true, false, if◌then◌else◌, nat_le, List, [], ◌∷◌, ◌++◌, length, refl, sym, subst, arith, length-append}
use Rattle.std.specs.Prelude.{All}
use Rattle.std.proofs.lemmas.List.Elements.{All-head, All-tail}
use Rattle.sk_insn.specs.declared.insn.Insn.{Insn}
use Rattle.sk_insn.specs.declared.operation.Comparison.TheVariants.{Equal, Greater, GreaterOrEqual}
use Rattle.sk_insn.specs.Operations.{operation_of}
use Rattle.sk_filter.specs.Valid.{IsValid}
use Rattle.sk_profile.specs.Code.{load, with, branch, jump, answer, high}
use Rattle.sk_profile.specs.Sayings.{low}
use Rattle.sk_profile.proofs.Fitting.{FitsBefore, Fit, EndsWithAnswer, load_fits, with_fits, branch_fits, jump_fits, answer_fits, both_fit, behind_others, some_there, no_fault_in}
use Rattle.sk_terms.specs.declared.choices.Choice.{Choice}
use Rattle.sk_terms.specs.declared.term.Register.{Register}
use Rattle.sk_terms.specs.declared.term.Register.TheVariants.{Number, Pointer, Argument}
use Rattle.sk_terms.specs.declared.term.Term.{Term}
use Rattle.sk_policy.specs.declared.cases.Case.{Case}
use Rattle.sk_policy.specs.declared.test.Test.{Test}
use Rattle.sk_policy.specs.declared.test.Test.TheVariants.{Is, Above, AtLeast}
use Rattle.sk_policy.specs.Code.{comparison_of, low_place, high_place, kept_code, word_code, low_code, high_code, wide_code, is_narrow, test_code, bounds_code, range_code, term_code, placed_code, choice_from, are_joined, equals_from, lower_code, joined_code, choice_code, line_from, line_code, cases_code, head_code}
use Rattle.sk_policy.specs.Policies.{IsThere, AsksThere, AllThere, CaseThere}

low_load : (r : Register) (behind : ℕ) → IsThere r → FitsBefore behind (operation_of (load (low_place r)).code) (load (low_place r))
low_load Number behind there = load_fits 0 behind refl (omega arith)
low_load Pointer behind there = load_fits 8 behind refl (omega arith)
low_load (Argument i) behind there = load_fits (16 + 8 * i) behind (omega arith) (omega (arith, there))

high_load : (r : Register) (behind : ℕ) → IsThere r → FitsBefore behind (operation_of (load (high_place r)).code) (load (high_place r))
high_load Number behind there = load_fits 0 behind refl (omega arith)
high_load Pointer behind there = load_fits 12 behind refl (omega arith)
high_load (Argument i) behind there = load_fits (20 + 8 * i) behind (omega arith) (omega (arith, there))

kept_fits : (mask behind : ℕ) → Fit behind (kept_code mask)
kept_fits mask behind = by (mask == 0xffffffff) where
  by : (b : Bool) → Fit behind (if b then [] else with mask ∷ [])
  by true = tt
  by false = (with_fits mask _, tt)

low_fits : (test : Test) (r : Register) (mask n held failed behind : ℕ) → IsThere r → held < behind → failed < behind → Fit behind (low_code test r mask n held failed)
low_fits test r mask n held failed behind there near near' =
    both_fit (word_code (low_place r) (low mask)) (branch (comparison_of test) (low n) held failed ∷ []) behind
    (low_load r _ there, kept_fits (low mask) (1 + behind)) (branch_fits (comparison_of test) _ _ _ _ (omega (arith, near)) (omega (arith, near')), tt)

high_fits : (test : Test) (n l held failed behind : ℕ) → l + held < behind → l + failed < behind → Fit behind (high_code test n l held failed)
high_fits Is n l held failed behind near near' = (branch_fits Equal _ _ _ _ (omega (arith, near)) (omega (arith, near')), tt)
high_fits Above n l held failed behind near near' =
    (branch_fits Greater _ _ _ _ (omega (arith, near)) (omega arith), (branch_fits Equal _ _ _ _ (omega (arith, near)) (omega (arith, near')), tt))
high_fits AtLeast n l held failed behind near near' =
    (branch_fits Greater _ _ _ _ (omega (arith, near)) (omega arith), (branch_fits Equal _ _ _ _ (omega (arith, near)) (omega (arith, near')), tt))

wide_fits : (test : Test) (r : Register) (mask n held failed behind : ℕ) → IsThere r → held < behind → failed < behind → Fit behind (wide_code test r mask n held failed)
wide_fits test r mask n held failed behind there near near' =
    let lower = low_code test r mask n held failed in
    let upper = high_code test (high n) (length lower) held failed in
    both_fit (word_code (high_place r) (high mask)) (upper ++ lower) behind (high_load r _ there, kept_fits (high mask) (length (upper ++ lower) + behind))
    (both_fit upper lower behind (high_fits test (high n) (length lower) held failed (length lower + behind) (omega (arith, near)) (omega (arith, near')))
    (low_fits test r mask n held failed behind there near near'))

test_fits : (test : Test) (r : Register) (mask n held failed behind : ℕ) → IsThere r → held < behind → failed < behind → Fit behind (test_code test r mask n held failed)
test_fits test r mask n held failed behind there near near' = by (is_narrow r mask) (high n == 0) where
  by : (b c : Bool) → Fit behind (if b then (if c then low_code test r mask n held failed else jump failed ∷ []) else wide_code test r mask n held failed)
  by true true = low_fits test r mask n held failed behind there near near'
  by true false = (jump_fits failed _ (omega (arith, near')), tt)
  by false c = wide_fits test r mask n held failed behind there near near'

range_fits : (term : Term) (held failed behind : ℕ) → AsksThere term → held < behind → failed < behind → Fit behind (range_code term held failed)
range_fits term held failed behind there near near' = by (term.first == term.last) (term.first == 0) (nat_le term.mask term.last) where
  second : List Insn
  second = test_code Above term.register term.mask term.last failed held

  by : (b c d : Bool) → Fit behind (if b then test_code Is term.register term.mask term.first held failed
      else if c then test_code Above term.register term.mask term.last failed held
      else if d then test_code AtLeast term.register term.mask term.first held failed
      else bounds_code term held failed)
  by true c d = test_fits Is term.register term.mask term.first held failed behind there near near'
  by false true d = test_fits Above term.register term.mask term.last failed held behind there near' near
  by false false true = test_fits AtLeast term.register term.mask term.first held failed behind there near near'
  by false false false =
      both_fit (test_code AtLeast term.register term.mask term.first 0 (length (test_code Above term.register term.mask term.last failed held) + failed)) (test_code Above term.register term.mask term.last failed held) behind
      (test_fits AtLeast term.register term.mask term.first 0 (length (test_code Above term.register term.mask term.last failed held) + failed) (length (test_code Above term.register term.mask term.last failed held) + behind) there (omega (arith, near)) (omega (arith, near')))
      (test_fits Above term.register term.mask term.last failed held behind there near' near)

term_fits : (term : Term) (held failed behind : ℕ) → AsksThere term → held < behind → failed < behind → Fit behind (term_code term held failed)
unfolding term_code
term_fits term held failed behind there near near' = by term.inside where
  by : (b : Bool) → Fit behind (if b then range_code term held failed else range_code term failed held)
  by true = range_fits term held failed behind there near near'
  by false = range_fits term failed held behind there near' near

placed_fits : (term : Term) (held failed behind : ℕ) → AsksThere term → held < behind → failed < behind → Fit behind (placed_code term held failed)
unfolding placed_code
placed_fits term held failed behind there near near' = by (nat_le held 200 && nat_le failed 200) where
  by : (b : Bool) → Fit behind (if b then term_code term held failed else term_code term 0 1 ++ jump (1 + held) ∷ jump failed ∷ [])
  by true = term_fits term held failed behind there near near'
  by false =
      both_fit (term_code term 0 1) (jump (1 + held) ∷ jump failed ∷ []) behind (term_fits term 0 1 (2 + behind) there (omega arith) (omega arith))
      (jump_fits _ _ (omega (arith, near)), (jump_fits failed _ (omega (arith, near')), tt))

choice_from_fits : (term : Term) (terms : List Term) (held failed behind : ℕ) → All AsksThere (term ∷ terms) → held < behind → failed < behind → Fit behind (choice_from term terms held failed)
choice_from_fits term [] held failed behind there near near' = placed_fits term held failed behind (All-head AsksThere term [] there) near near'
choice_from_fits term (other ∷ terms) held failed behind there near near' =
    let rest = choice_from other terms held failed in
    both_fit (placed_code term (length rest + held) 0) rest behind
    (placed_fits term (length rest + held) 0 (length rest + behind) (All-head AsksThere term (other ∷ terms) there) (omega (arith, near)) (omega (arith, near)))
    (choice_from_fits other terms held failed behind (All-tail AsksThere term (other ∷ terms) there) near near')

equals_fit : (term : Term) (terms : List Term) (held failed behind : ℕ) → held < behind → failed < behind → Fit behind (equals_from term terms held failed)
equals_fit term [] held failed behind near near' = (branch_fits Equal _ _ _ _ (omega (arith, near)) (omega (arith, near')), tt)
equals_fit term (other ∷ terms) held failed behind near near' =
    (branch_fits Equal _ _ _ _ (omega (arith, near)) (omega (arith, near)), equals_fit other terms held failed behind near near')

lower_fits : (first term : Term) (terms : List Term) (held failed behind : ℕ) → AsksThere first → held < behind → failed < behind → Fit behind (lower_code first (term ∷ terms) held failed)
lower_fits first term terms held failed behind there near near' =
    both_fit (word_code (low_place first.register) (low first.mask)) (equals_from term terms held failed) behind
    (low_load first.register _ there, kept_fits (low first.mask) (length (equals_from term terms held failed) + behind)) (equals_fit term terms held failed behind near near')

joined_fits : (first term : Term) (terms : List Term) (held failed behind : ℕ) → AsksThere first → held < behind → failed < behind → Fit behind (joined_code first (term ∷ terms) held failed)
unfolding joined_code
joined_fits first term terms held failed behind there near near' = by (is_narrow first.register first.mask) where
  lower : List Insn
  lower = lower_code first (term ∷ terms) held failed

  asked : List Insn
  asked = branch Equal (high first.first) 0 (length lower + failed) ∷ lower

  by : (b : Bool) → Fit behind (if b then lower_code first (term ∷ terms) held failed
      else word_code (high_place first.register) (high first.mask)
      ++ (branch Equal (high first.first) 0 (length (lower_code first (term ∷ terms) held failed) + failed) ∷ lower_code first (term ∷ terms) held failed))
  by true = lower_fits first term terms held failed behind there near near'
  by false =
      both_fit (word_code (high_place first.register) (high first.mask)) asked behind
      (high_load first.register _ there, kept_fits (high first.mask) (length asked + behind))
      (branch_fits Equal _ _ _ _ (omega (arith, near)) (omega (arith, near')), lower_fits first term terms held failed behind there near near')

choice_fits : (terms : List Term) (held failed behind : ℕ) → All AsksThere terms → held < behind → failed < behind → Fit behind (choice_code terms held failed)
choice_fits [] held failed behind there near near' = (jump_fits failed _ (omega (arith, near')), tt)
choice_fits (term ∷ terms) held failed behind there near near' = by (are_joined term (term ∷ terms) held failed) where
  by : (b : Bool) → Fit behind (if b then joined_code term (term ∷ terms) held failed else choice_from term terms held failed)
  by true = joined_fits term term terms held failed behind (All-head AsksThere term terms there) near near'
  by false = choice_from_fits term terms held failed behind there near near'

abbrev ChoiceThere : Choice → Type 0
ChoiceThere choice = All AsksThere choice.terms.items

line_from_fits : (choice : Choice) (choices : List Choice) (held failed behind : ℕ) → AllThere (choice ∷ choices) → held < behind → failed < behind → Fit behind (line_from choice choices held failed)
line_from_fits choice [] held failed behind there near near' = choice_fits choice.terms.items held failed behind (All-head ChoiceThere choice [] there) near near'
line_from_fits choice (other ∷ choices) held failed behind there near near' =
    let rest = line_from other choices held failed in
    both_fit (choice_code choice.terms.items 0 (length rest + failed)) rest behind
    (choice_fits choice.terms.items 0 (length rest + failed) (length rest + behind) (All-head ChoiceThere choice (other ∷ choices) there) (omega (arith, near)) (omega (arith, near')))
    (line_from_fits other choices held failed behind (All-tail ChoiceThere choice (other ∷ choices) there) near near')

line_fits : (choices : List Choice) (held failed behind : ℕ) → AllThere choices → held < behind → failed < behind → Fit behind (line_code choices held failed)
line_fits [] held failed behind there near near' = (jump_fits held _ (omega (arith, near)), tt)
line_fits (choice ∷ choices) held failed behind there near near' = line_from_fits choice choices held failed behind there near near'

pub cases_ends : (cases : List Case) (otherwise : ℕ) → EndsWithAnswer (cases_code cases otherwise)
cases_ends [] otherwise = record { front = []; value = otherwise; is = refl }
cases_ends (first ∷ cases) otherwise =
    behind_others (line_code first.choices.items 0 1) (answer first.value ∷ cases_code cases otherwise) (behind_others (answer first.value ∷ []) (cases_code cases otherwise) (cases_ends cases otherwise))

pub cases_fit : (cases : List Case) (otherwise behind : ℕ) → All CaseThere cases → Fit behind (cases_code cases otherwise)
cases_fit [] otherwise behind there = (answer_fits _ _, tt)
cases_fit (first ∷ cases) otherwise behind there =
    let rest = cases_code cases otherwise in
    let some = some_there rest (cases_ends cases otherwise) in
    both_fit (line_code first.choices.items 0 1) (answer first.value ∷ rest) behind
    (line_fits first.choices.items 0 1 (length (answer first.value ∷ rest) + behind) (All-head CaseThere first cases there) (omega arith) (omega (arith, some)))
    (answer_fits _ _, cases_fit cases otherwise behind (All-tail CaseThere first cases there))

-- two parts, and the head before them
pub head_fits : (number : ℕ) (low high : List Insn) (behind : ℕ) → EndsWithAnswer high → Fit (length high + behind) low → Fit behind high
    → Fit behind (head_code number (length low) ++ (low ++ high))
head_fits number low high behind ends one other = by (nat_le (length low) 255) where
  by : (near : Bool) → Fit behind ((if near then branch GreaterOrEqual number (length low) 0 ∷ [] else branch GreaterOrEqual number 0 1 ∷ jump (length low) ∷ []) ++ (low ++ high))
  by true =
      let all = length-append low high in
      let some = some_there high ends in
      (branch_fits GreaterOrEqual _ _ _ _ (omega (arith, all, some)) (omega (arith, all, some)), both_fit low high behind one other)
  by false =
      let all = length-append low high in
      let some = some_there high ends in
      (branch_fits GreaterOrEqual _ _ _ _ (omega arith) (omega (arith, all, some)), (jump_fits _ _ (omega (arith, all, some)), both_fit low high behind one other))

-- the guard before the rules: A holds the call's number behind it, where its architecture is this one
abbrev pub guarded : ℕ → ℕ → List Insn → List Insn
guarded audit bad insns = load 4 ∷ branch Equal audit 1 0 ∷ answer bad ∷ load 0 ∷ insns

pub guarded_valid : (code insns : List Insn) (audit bad : ℕ) → code ≡ guarded audit bad insns → Fit 0 insns → EndsWithAnswer insns → length code ≤ 4096 → IsValid code
guarded_valid code insns audit bad is fit ends few =
    let head = guarded audit bad [] in
    let whole : Fit 0 (head ++ insns) =
    (load_fits 4 _ refl (omega arith), (branch_fits Equal _ _ _ _ (omega arith) (omega arith), (answer_fits _ _, (load_fits 0 _ refl (omega arith), fit)))) in
    subst IsValid (sym is) (no_fault_in (head ++ insns) whole (behind_others head insns ends) (subst (λ insns. length insns ≤ 4096) is few))
