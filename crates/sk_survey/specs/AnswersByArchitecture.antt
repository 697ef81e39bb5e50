-- What chains answer to all calls of an architecture: seccomp(2), "the system call architecture".
use Rattle.std.specs.Prelude.{ℕ, ◌≡◌, ◌≤◌, List, [], ◌∷◌, map, Option, Some, None}
use Rattle.std.specs.List.{All}
use Rattle.sk_insn.specs.declared.insn.Insn.{Insn}
use Rattle.sk_insn.specs.declared.record.Record.{Record}
use Rattle.sk_filter.specs.Chains.{AllValid}
use Rattle.sk_filter.specs.Verdict.{verdict_of}
use Rattle.sk_survey.specs.Answers.{answers_of}
use Rattle.sk_survey.specs.Surveys.{Holds}
use Rattle.sk_names.specs.declared.architecture.Architecture.{Architecture}
use Rattle.sk_names.specs.declared.architecture.Architecture.TheVariants as architecture
use Rattle.sk_names.specs.Architectures.{architectures, audit_of}
use Rattle.sk_survey.specs.ChainsFor.{chain_for}
use Rattle.sk_survey.specs.declared.answered.Answered.{Answered}

-- the numbers of its calls: those of x32 have bit 30, those of x86-64 have not; on the others any number may be one
abbrev pub first_of : Architecture → ℕ
first_of architecture.X32 = 0x40000000
first_of architecture = 0

abbrev pub last_of : Architecture → ℕ
last_of architecture.X86_64 = 0x3fffffff
last_of architecture.X32 = 0x7fffffff
last_of architecture = 0xffffffff

-- a call by one of its numbers
abbrev pub IsCallBy : Architecture → Record → Type 0
IsCallBy by call = (call.arch ≡ audit_of by) × ((first_of by ≤ call.nr) × (call.nr ≤ last_of by))

-- so the chain answers to all its calls, by the survey of the chain in which its number is a constant
pub record IsAnswered (programs : List (List Insn)) (it : Answered) : Type 0 where
  pub first : it.row.first ≡ first_of it.architecture
  pub last : it.row.last ≡ last_of it.architecture
  pub holds : Holds (chain_for (audit_of it.architecture) programs) it.row

abbrev pub answered_architecture : Answered → Architecture
answered_architecture it = it.architecture

-- and to those of each architecture, in their order
abbrev pub AreAnswered : List (List Insn) → List Answered → Type 0
AreAnswered programs its = (map answered_architecture its ≡ architectures) × All (IsAnswered programs) its

-- the one value that is told, if it is one
abbrev pub only_value : Option (List ℕ) → Option ℕ
only_value (Some (value ∷ [])) = Some value
only_value answers = None

-- where one verdict is told, each call gets it
abbrev pub OneVerdictIsOfEachCall : Type 0
OneVerdictIsOfEachCall =
    (programs : List (List Insn)) → AllValid programs → (it : Answered) → IsAnswered programs it
    → (value : ℕ) → only_value (answers_of it.row.answers) ≡ Some value
    → (call : Record) → IsCallBy it.architecture call → verdict_of programs call ≡ value
