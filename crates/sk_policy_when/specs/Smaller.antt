-- One filter in place of a chain of filters: seccomp(2), "If multiple filters exist, they are all executed".
use Rattle.std.specs.Prelude.{ℕ, ◌≡◌, ◌≢◌, ◌+◌, ◌==◌, ◌<◌, ◌^◌, ◌||◌, Bool, false, IsSome, if◌then◌else◌, List, Option, None}
use Rattle.std.specs.List.{All, list_all}
use Rattle.std.specs.Option.{option_map_or}
use Rattle.sk_names.specs.declared.architecture.Architecture.{Architecture}
use Rattle.sk_names.specs.declared.architecture.Architecture.TheVariants.{X86_64}
use Rattle.sk_names.specs.Architectures.{audit_of}
use Rattle.sk_insn.specs.declared.insn.Insn.{Insn}
use Rattle.sk_insn.specs.declared.record.Record.{Record}
use Rattle.sk_filter.specs.Chains.{AllValid}
use Rattle.sk_filter.specs.Meaning.{meaning_of}
use Rattle.sk_filter.specs.Verdict.{verdict_of}
use Rattle.sk_profile.specs.Means.{Gives}
use Rattle.sk_survey.specs.declared.answered.Answered.{Answered}
use Rattle.sk_survey.specs.declared.other.Other.{Other}
use Rattle.sk_survey.specs.declared.other.Other.TheVariants.{Verdict, Several, Unknown}
use Rattle.sk_survey.specs.AnswersByArchitecture.{AreAnswered}
use Rattle.sk_survey.specs.Other.{IsOther, value_of}
use Rattle.sk_conditions.specs.Followed.{AreFollowed}
use Rattle.sk_terms.specs.declared.lines.Line.{Line}
use Rattle.sk_when.specs.declared.row.ConditionalRow.{ConditionalRow}
use Rattle.sk_when.specs.Telling.{AreTold}
use Rattle.sk_policy.specs.declared.policy.Rule.{Rule}
use Rattle.sk_policy.specs.Policies.{AllThere, IsWhole}
use Rattle.sk_policy.specs.Sizes.{rules_most}
use Rattle.sk_policy_when.specs.declared.smaller.OneFilterFault.{OneFilterFault}
use Rattle.sk_policy_when.specs.declared.smaller.OneFilterFault.TheVariants.{Untold, SeveralOthers, UnknownOthers, TooLong, Memory}
use Rattle.sk_policy_when.specs.Again.{AreRulesOf}

-- ---- the verdict of other architectures

-- filters are shown the architecture by the number of x86-64: so are x86-64 and x32, and an architecture with no name never is
abbrev pub is_native : Architecture → Bool
is_native by = audit_of by == audit_of X86_64

-- calls of the architecture, if it is another one, get this value, by what is told of them
abbrev pub gets : ℕ → Architecture → Option ℕ → Bool
gets value by told = is_native by || option_map_or (λ other. other == value) told false

abbrev pub gets_alone : ℕ → Answered → Bool
gets_alone value it = gets value it.architecture (value_of it.row)

-- the value of the architectures that have no name, if those that have one get it too
abbrev pub shared_by : List Answered → Other → Other
shared_by its (Verdict value) = if list_all (gets_alone value) its then Verdict value else Several
shared_by its other = other

-- what a survey tells of every architecture but x86-64
abbrev pub IsOthersVerdict : List (List Insn) → Other → Type 0
IsOthersVerdict programs result =
    (its : List Answered) × (other : Other) × AreAnswered programs its × IsOther programs other × (result ≡ shared_by its other)

-- each call of another architecture gets it
abbrev pub OthersGetOne : Type 0
OthersGetOne =
    (programs : List (List Insn)) → AllValid programs → (value : ℕ) → IsOthersVerdict programs (Verdict value)
    → (call : Record) → call.arch < 2 ^ 32 → call.nr < 2 ^ 32 → call.arch ≢ audit_of X86_64 → verdict_of programs call ≡ value

-- ---- the filter

-- it answers each call, of whatever architecture, as the filters do
abbrev pub AnswersAs : List (List Insn) → List Insn → Type 0
AnswersAs programs insns = (call : Record) → IsWhole call → Gives (verdict_of programs call) (meaning_of insns call)

-- ---- where there is none

-- a line asks for registers that a call has
abbrev pub LineThere : Line → Type 0
LineThere line = AllThere line.choices.items

abbrev pub RowThere : ConditionalRow → Type 0
RowThere told = All LineThere told.lines.items

abbrev pub AreThere : List ConditionalRow → Type 0
AreThere rows = All RowThere rows

-- so it does, and it has a verdict
abbrev pub CanBeCase : Line → Type 0
CanBeCase line = IsSome line.value × LineThere line

-- so has each line of a row, and its line `else`
abbrev pub CanBeRule : ConditionalRow → Type 0
CanBeRule told = All CanBeCase told.lines.items × IsSome told.otherwise

-- why there is none: filters that are followed are told of, but for a register that no call has; one verdict is told of the calls of
-- other architectures, or several are, or it is not known; and the filter fits, unless it may be longer than 4096 instructions,
-- BPF_MAXINSNS
abbrev pub IsNoFilter : List (List Insn) → Bool → OneFilterFault → Type 0
IsNoFilter programs is_spent Untold =
    All AreFollowed programs → is_spent ≡ false → (rows : List ConditionalRow) × AreTold X86_64 None programs is_spent rows × (AreThere rows → ⊥)
IsNoFilter programs is_spent SeveralOthers = IsOthersVerdict programs Several
IsNoFilter programs is_spent UnknownOthers = IsOthersVerdict programs Unknown
IsNoFilter programs is_spent TooLong =
    (rows : List ConditionalRow) × (rules : List Rule) × AreTold X86_64 None programs is_spent rows × AreRulesOf rows rules × (4096 < rules_most rules + 5)
IsNoFilter programs is_spent Memory = Unit {0}
