-- Policies of the rows that `ask when` tells.
use Rattle.std.specs.Prelude.{◌≡◌, ◌<◌, ◌^◌, Bool, List, [], ◌∷◌, Some, None}
use Rattle.sk_names.specs.declared.architecture.Architecture.{Architecture}
use Rattle.sk_insn.specs.declared.insn.Insn.{Insn}
use Rattle.sk_insn.specs.declared.record.Record.{Record}
use Rattle.sk_insn.specs.Record.{architecture}
use Rattle.sk_filter.specs.Chains.{AllValid}
use Rattle.sk_filter.specs.Meaning.{meaning_of}
use Rattle.sk_filter.specs.Verdict.{verdict_of}
use Rattle.sk_profile.specs.Means.{Gives}
use Rattle.sk_survey.specs.ChainsFor.{chain_for, of_architecture}
use Rattle.sk_terms.specs.declared.lines.Line.{Line}
use Rattle.sk_when.specs.declared.row.ConditionalRow.{ConditionalRow}
use Rattle.sk_when.specs.Telling.{AreTold}
use Rattle.sk_policy.specs.declared.cases.Case.{Case}
use Rattle.sk_policy.specs.declared.policy.Policy.{Policy}
use Rattle.sk_policy.specs.declared.policy.Rule.{Rule}
use Rattle.sk_policy.specs.Policies.{said_by, MeansPolicy, AreApart, AreWithin, IsWhole}

-- lines, each with one value, as cases
abbrev pub AreCasesOf : List Line → List Case → Type 0
AreCasesOf [] [] = Unit {0}
AreCasesOf (line ∷ lines) (it ∷ cases) = (line.value ≡ Some it.value) × (line.choices.items ≡ it.choices.items) × AreCasesOf lines cases
AreCasesOf lines cases = ⊥

-- a row, whose line `else` has a value too, as a rule
pub record IsRuleOf (told : ConditionalRow) (rule : Rule) : Type 0 where
  pub first : told.row.first ≡ rule.first
  pub last : told.row.last ≡ rule.last
  pub cases : AreCasesOf told.lines.items rule.cases.items
  pub otherwise : told.otherwise ≡ Some rule.otherwise

abbrev pub AreRulesOf : List ConditionalRow → List Rule → Type 0
AreRulesOf [] [] = Unit {0}
AreRulesOf (told ∷ rows) (rule ∷ rules) = IsRuleOf told rule × AreRulesOf rows rules
AreRulesOf rows rules = ⊥

-- a call as rows tell of it, as one of x86-64; so are those of other architectures asked
abbrev pub as_native : Record → Record
as_native call = of_architecture architecture call

-- the policy says of each call, of whatever architecture, the verdict that the filters have for it as one of x86-64
abbrev pub RowsComeBack : Type 0
RowsComeBack =
    (told_for : Architecture) (programs : List (List Insn)) (is_spent : Bool) (rows : List ConditionalRow) (policy : Policy)
    → AreTold told_for None programs is_spent rows → AreRulesOf rows policy.rules.items
    → (call : Record) → call.nr < 2 ^ 32 → said_by policy call ≡ verdict_of programs (as_native call)

-- what means the policy answers each call of its architecture so
abbrev pub FiltersComeBack : Type 0
FiltersComeBack =
    (told_for : Architecture) (programs : List (List Insn)) (is_spent : Bool) (rows : List ConditionalRow) (policy : Policy) (insns : List Insn)
    → AreTold told_for None programs is_spent rows → AreRulesOf rows policy.rules.items → MeansPolicy insns policy
    → (call : Record) → IsWhole call → call.arch ≡ policy.audit → Gives (verdict_of programs (as_native call)) (meaning_of insns call)

-- rows that are told for the calls of the policy's architecture: of each of these it answers what the filters answer
abbrev pub ArchitecturesComeBack : Type 0
ArchitecturesComeBack =
    (told_for : Architecture) (programs : List (List Insn)) (is_spent : Bool) (rows : List ConditionalRow) (policy : Policy) (insns : List Insn)
    → AllValid programs → AreTold told_for None (chain_for policy.audit programs) is_spent rows → AreRulesOf rows policy.rules.items → MeansPolicy insns policy
    → (call : Record) → IsWhole call → call.arch ≡ policy.audit → Gives (verdict_of programs call) (meaning_of insns call)

-- no number is in two rules
abbrev pub RowsAreRules : Type 0
RowsAreRules =
    (told_for : Architecture) (programs : List (List Insn)) (is_spent : Bool) (rows : List ConditionalRow) (rules : List Rule)
    → AreTold told_for None programs is_spent rows → AreRulesOf rows rules → AreApart rules × AreWithin 0 0xffffffff rules
