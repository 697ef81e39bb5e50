-- What chains answer to all calls of the architectures that have no name here.
use Rattle.std.specs.Prelude.{ℕ, ◌≡◌, ◌==◌, ◌<◌, ◌^◌, ◌||◌, not, Bool, false, if◌then◌else◌, List, map, find, Option, Some, None}
use Rattle.std.specs.List.{list_all, list_any}
use Rattle.std.specs.Option.{option_and_then, option_map_or}
use Rattle.sk_insn.specs.declared.insn.Insn.{Insn}
use Rattle.sk_insn.specs.declared.record.Record.{Record}
use Rattle.sk_filter.specs.Chains.{AllValid}
use Rattle.sk_filter.specs.Verdict.{verdict_of}
use Rattle.sk_survey.specs.declared.rows.Row.{Row}
use Rattle.sk_survey.specs.Answers.{answers_of}
use Rattle.sk_survey.specs.Surveys.{IsSurveyFrom, StandAlone}
use Rattle.sk_names.specs.Architectures.{architectures, audit_of}
use Rattle.sk_survey.specs.ByArchitecture.{chain_by_architecture}
use Rattle.sk_survey.specs.declared.other.Other.{Other}
use Rattle.sk_survey.specs.declared.other.Other.TheVariants.{Verdict, Several, Unknown}
use Rattle.sk_survey.specs.AnswersByArchitecture.{only_value}

-- the numbers by which filters are shown the architectures that have a name
abbrev pub audits : List ℕ
audits = map audit_of architectures

abbrev pub is_named : ℕ → Bool
is_named number = list_any (λ audit. number == audit) audits

-- a call of another architecture
pub record IsOtherCall (call : Record) : Type 0 where
  pub other : is_named call.arch ≡ false
  pub architecture : call.arch < 2 ^ 32
  pub number : call.nr < 2 ^ 32

-- ---- of a survey in which the architectures stand for the numbers

abbrev pub value_of : Row → Option ℕ
value_of row = only_value (answers_of row.answers)

-- a row tells this one value, or it is of an architecture that has a name
abbrev pub agrees : ℕ → Row → Bool
agrees value row = is_named row.first || option_map_or (λ other. other == value) (value_of row) false

-- the one value that the first row of other architectures tells, if all these rows tell it
abbrev pub first_value : List Row → Option ℕ
first_value rows = option_and_then value_of (find (λ row. not (is_named row.first)) rows)

abbrev pub shared_value : List Row → Option ℕ
shared_value rows = option_and_then (λ value. if list_all (agrees value) rows then Some value else None) (first_value rows)

abbrev pub verdict_or_several : Option ℕ → Other
verdict_or_several (Some value) = Verdict value
verdict_or_several None = Several

-- ---- of a chain

-- what a survey tells of the chain that looks for the architecture where the number is, in which each architecture that has
-- a name stands alone
abbrev pub IsOtherOf : Option (List (List Insn)) → Other → Type 0
IsOtherOf None other = other ≡ Unknown
IsOtherOf (Some own) other =
    (rows : List Row) × IsSurveyFrom own 0 rows × StandAlone audits rows × (other ≡ verdict_or_several (shared_value rows))

abbrev pub IsOther : List (List Insn) → Other → Type 0
IsOther programs other = IsOtherOf (chain_by_architecture programs) other

-- where one verdict is told, each call gets it
abbrev pub OtherVerdictIsOfEachCall : Type 0
OtherVerdictIsOfEachCall =
    (programs : List (List Insn)) → AllValid programs → (value : ℕ) → IsOther programs (Verdict value)
    → (call : Record) → IsOtherCall call → verdict_of programs call ≡ value
