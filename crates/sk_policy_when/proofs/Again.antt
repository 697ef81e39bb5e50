-- Policies of the rows that `ask when` tells say what the filters answer.
use Rattle.std.proofs.Common.{◌≡◌, ℕ, ◌+◌, ◌<◌, ◌≤◌, ◌^◌, nat_le, ◌&&◌, ◌||◌, if◌then◌else◌, bit_and, List, [], ◌∷◌, map, Option, Some, inl, inr, refl, ap, sym, ◌∙◌, subst, arith}
use Rattle.std.specs.List.{All}
use Rattle.std.proofs.lemmas.Bool.{cases_Bool, le-leb, leb-true, leb-false}
use Rattle.std.proofs.lemmas.List.Elements.{All-nil, All-cons, All-head, All-tail}
use Rattle.sk_insn.specs.declared.insn.Insn.{Insn}
use Rattle.sk_insn.specs.declared.record.Record.{Record}
use Rattle.sk_insn.specs.Record.{IsNative}
use Rattle.sk_filter.specs.Meaning.{meaning_of}
use Rattle.sk_filter.specs.Verdict.{verdict_of}
use Rattle.sk_profile.specs.Means.{Gives}
use Rattle.sk_survey.specs.Answers.{answers_of}
use Rattle.sk_survey.specs.ChainsFor.{chain_for, of_architecture}
use Rattle.sk_survey.specs.Surveys.{Tell}
use Rattle.sk_survey.proofs.Chains.{chains_for_architectures}
use Rattle.sk_terms.specs.declared.choices.Choice.{Choice}
use Rattle.sk_terms.specs.declared.lines.Line.{Line}
use Rattle.sk_terms.specs.declared.term.Register.{Register}
use Rattle.sk_terms.specs.declared.term.Register.TheVariants.{Number, Pointer, Argument}
use Rattle.sk_terms.specs.declared.term.Term.{Term}
use Rattle.sk_terms.specs.Terms.{register_of, takes}
use Rattle.sk_terms.specs.Lines.{holds_one, holds_choice, meets_line, meets_choices, told_by}
use Rattle.sk_when.specs.declared.row.ConditionalRow.{ConditionalRow}
use Rattle.sk_when.specs.Lines.{or_else, IsTold, IsVerdict}
use Rattle.sk_when.specs.Telling.{row_told}
use Rattle.sk_policy.specs.declared.cases.Case.{Case}
use Rattle.sk_policy.specs.declared.policy.Rule.{Rule}
use Rattle.sk_policy.specs.Policies.{said, is_for, says, AreApart, AreWithin}
use Rattle.sk_policy_when.specs.Again.{AreCasesOf, IsRuleOf, AreRulesOf, as_native, RowsComeBack, FiltersComeBack, ArchitecturesComeBack, RowsAreRules}

-- the one value that lines tell is that of the first case that is met
told_said : (lines : List Line) (cases : List Case) (otherwise : ℕ) (call : Record) (value : Option ℕ) → AreCasesOf lines cases → or_else (told_by lines call) (Some otherwise) ≡ value ∷ []
    → value ≡ Some (said cases otherwise call)
told_said [] [] otherwise call value are told = cc
told_said [] (it ∷ cases) otherwise call value are told = absurd are
told_said (line ∷ lines) [] otherwise call value are told = absurd are
told_said (line ∷ lines) (it ∷ cases) otherwise call value are told =
    let same : meets_line line call ≡ meets_choices it.choices.items call = ap (λ (choices : List Choice). meets_choices choices call) are.1 in
    elim (cases_Bool (meets_line line call)) [
      | inl met ↦
          let first : line.value ∷ told_by lines call ≡ value ∷ [] = rw met at told in
          let is : line.value ≡ value = cc in
          rw (sym same ∙ met) (sym is ∙ are.0)
      | inr unmet ↦
          let rest : or_else (told_by lines call) (Some otherwise) ≡ value ∷ [] = rw unmet at told in
          rw (sym same ∙ unmet) (told_said lines cases otherwise call value are.2 rest)
    ]

row_said : (programs : List (List Insn)) (told : ConditionalRow) (rule : Rule) (call : Record) → IsTold programs told → IsRuleOf told rule → IsNative call → rule.first ≤ call.nr → call.nr ≤ rule.last
    → said rule.cases.items rule.otherwise call ≡ verdict_of programs call
row_said programs told rule call is of native from to =
    let it = is call (native, (subst (λ n. n ≤ call.nr) (sym of.first) from, subst (λ n. call.nr ≤ n) (sym of.last) to)) in
    let one : or_else (told_by told.lines.items call) (Some rule.otherwise) ≡ it.0 ∷ [] = ap (λ (otherwise : Option ℕ). or_else (told_by told.lines.items call) otherwise) (sym of.otherwise) ∙ it.1 in
    let value = told_said told.lines.items rule.cases.items rule.otherwise call it.0 of.cases one in
    subst (IsVerdict (answers_of told.row.answers) (verdict_of programs call)) value it.2

rows_said : (programs : List (List Insn)) (from : ℕ) (rows : List ConditionalRow) (rules : List Rule) (default : ℕ) (call : Record) → Tell programs from (2 ^ 32) (map row_told rows) → All (IsTold programs) rows
    → AreRulesOf rows rules → IsNative call → from ≤ call.nr → call.nr < 2 ^ 32 → says rules default call ≡ verdict_of programs call
rows_said programs from [] [] default call tell all are native low high = absurd (omega (arith, tell, low, high))
rows_said programs from [] (rule ∷ rules) default call tell all are native low high = absurd are
rows_said programs from (told ∷ rows) [] default call tell all are native low high = absurd are
rows_said programs from (told ∷ rows) (rule ∷ rules) default call tell all are native low high =
    let of = are.0 in
    let first : rule.first ≤ call.nr = omega (arith, of.first, tell.0, low) in
    elim (cases_Bool (nat_le call.nr rule.last)) [
      | inl inside ↦
          rw (le-leb rule.first call.nr first, inside)
          (row_said programs told rule call (All-head (IsTold programs) told rows all) of native first (leb-true call.nr rule.last inside))
      | inr above ↦
          let past = leb-false call.nr rule.last above in
          rw (le-leb rule.first call.nr first, above)
          (rows_said programs (told.row.last + 1) rows rules default call tell.4 (All-tail (IsTold programs) told rows all) are.1 native (omega (arith, past, of.last)) high)
    ]

-- no term asks for the architecture
same_register : (r : Register) (call : Record) → register_of r call ≡ register_of r (as_native call)
same_register Number call = refl
same_register Pointer call = refl
same_register (Argument i) call = refl

same_terms : (terms : List Term) (call : Record) → holds_one terms call ≡ holds_one terms (as_native call)
same_terms [] call = refl
same_terms (term ∷ terms) call =
    ap (λ n. takes term (bit_and n term.mask) || holds_one terms call) (same_register term.register call)
    ∙ ap (λ others. takes term (bit_and (register_of term.register (as_native call)) term.mask) || others) (same_terms terms call)

pub same_choices : (choices : List Choice) (call : Record) → meets_choices choices call ≡ meets_choices choices (as_native call)
same_choices [] call = refl
same_choices (choice ∷ choices) call =
    ap (λ b. b && meets_choices choices call) (same_terms choice.terms.items call) ∙ ap (λ others. holds_choice choice (as_native call) && others) (same_choices choices call)

same_said : (cases : List Case) (otherwise : ℕ) (call : Record) → said cases otherwise call ≡ said cases otherwise (as_native call)
same_said [] otherwise call = refl
same_said (first ∷ cases) otherwise call =
    ap (λ b. if b then first.value else said cases otherwise call) (same_choices first.choices.items call)
    ∙ ap (λ v. if meets_choices first.choices.items (as_native call) then first.value else v) (same_said cases otherwise call)

same_says : (rules : List Rule) (default : ℕ) (call : Record) → says rules default call ≡ says rules default (as_native call)
same_says [] default call = refl
same_says (rule ∷ rules) default call =
    ap (λ v. if is_for rule call.nr then v else says rules default call) (same_said rule.cases.items rule.otherwise call)
    ∙ ap (λ v. if is_for rule call.nr then said rule.cases.items rule.otherwise (as_native call) else v) (same_says rules default call)

pub rows_come_back : RowsComeBack
rows_come_back told_for programs is_spent rows policy told are call small =
    same_says policy.rules.items policy.default call
    ∙ rows_said programs 0 rows policy.rules.items policy.default (as_native call) told.rows told.told are refl (omega arith) small

pub filters_come_back : FiltersComeBack
filters_come_back told_for programs is_spent rows policy insns told are means call ok same =
    subst (λ v. Gives v (meaning_of insns call)) (rows_come_back told_for programs is_spent rows policy told are call ok.is_call.number) (means call ok same)

pub architectures_come_back : ArchitecturesComeBack
architectures_come_back told_for programs is_spent rows policy insns valid told are means call ok same =
    let fits : policy.audit < 2 ^ 32 = omega (arith, ok.is_call.arch, same) in
    let asked = chains_for_architectures programs valid policy.audit fits (as_native call) refl in
    let back : of_architecture policy.audit (as_native call) ≡ call = ap (λ arch. of_architecture arch call) (sym same) in
    subst (λ v. Gives v (meaning_of insns call)) (asked ∙ ap (verdict_of programs) back)
    (filters_come_back told_for (chain_for policy.audit programs) is_spent rows policy insns told are means call ok same)

-- rules from a number on
from_on : (programs : List (List Insn)) (from : ℕ) (rows : List ConditionalRow) (rules : List Rule) → Tell programs from (2 ^ 32) (map row_told rows) → AreRulesOf rows rules
    → All (λ (rule : Rule). from ≤ rule.first) rules
from_on programs from [] [] tell are = All-nil (λ (rule : Rule). from ≤ rule.first)
from_on programs from [] (rule ∷ rules) tell are = absurd are
from_on programs from (told ∷ rows) [] tell are = absurd are
from_on programs from (told ∷ rows) (rule ∷ rules) tell are =
    All-cons (λ (rule : Rule). from ≤ rule.first) rule rules (omega (arith, are.0.first, tell.0))
    (lower rules (from_on programs (told.row.last + 1) rows rules tell.4 are.1)) where
      lower : (rules : List Rule) → All (λ (rule : Rule). told.row.last + 1 ≤ rule.first) rules → All (λ (rule : Rule). from ≤ rule.first) rules
      lower [] all = All-nil (λ (rule : Rule). from ≤ rule.first)
      lower (other ∷ rules) all =
          let here = All-head (λ (rule : Rule). told.row.last + 1 ≤ rule.first) other rules all in
          All-cons (λ (rule : Rule). from ≤ rule.first) other rules (omega (arith, here, tell.0, tell.1)) (lower rules (All-tail (λ (rule : Rule). told.row.last + 1 ≤ rule.first) other rules all))

behind : (rules : List Rule) (number last : ℕ) → number ≡ last + 1 → All (λ (rule : Rule). number ≤ rule.first) rules → All (λ (rule : Rule). last < rule.first) rules
behind [] number last is all = All-nil (λ (rule : Rule). last < rule.first)
behind (rule ∷ rules) number last is all =
    let here = All-head (λ (rule : Rule). number ≤ rule.first) rule rules all in
    All-cons (λ (rule : Rule). last < rule.first) rule rules (omega (arith, here, is)) (behind rules number last is (All-tail (λ (rule : Rule). number ≤ rule.first) rule rules all))

apart : (programs : List (List Insn)) (from : ℕ) (rows : List ConditionalRow) (rules : List Rule) → Tell programs from (2 ^ 32) (map row_told rows) → AreRulesOf rows rules → AreApart rules
apart programs from [] [] tell are = tt
apart programs from [] (rule ∷ rules) tell are = absurd are
apart programs from (told ∷ rows) [] tell are = absurd are
apart programs from (told ∷ rows) (rule ∷ rules) tell are = (
  omega (arith, are.0.first, are.0.last, tell.1),
  behind rules (told.row.last + 1) rule.last (ap (λ n. n + 1) are.0.last) (from_on programs (told.row.last + 1) rows rules tell.4 are.1),
  apart programs (told.row.last + 1) rows rules tell.4 are.1,
)

within : (programs : List (List Insn)) (from : ℕ) (rows : List ConditionalRow) (rules : List Rule) → Tell programs from (2 ^ 32) (map row_told rows) → AreRulesOf rows rules → AreWithin 0 0xffffffff rules
within programs from [] [] tell are = All-nil (λ (rule : Rule). (0 ≤ rule.first) × (rule.last ≤ 0xffffffff))
within programs from [] (rule ∷ rules) tell are = absurd are
within programs from (told ∷ rows) [] tell are = absurd are
within programs from (told ∷ rows) (rule ∷ rules) tell are =
    All-cons (λ (rule : Rule). (0 ≤ rule.first) × (rule.last ≤ 0xffffffff)) rule rules (omega arith, omega (arith, are.0.last, tell.2)) (within programs (told.row.last + 1) rows rules tell.4 are.1)

pub rows_are_rules : RowsAreRules
rows_are_rules told_for programs is_spent rows rules told are = (apart programs 0 rows rules told.rows are, within programs 0 rows rules told.rows are)
