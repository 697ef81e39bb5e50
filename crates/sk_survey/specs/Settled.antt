-- Filters that answer the calls of an architecture by it alone: seccomp(2), "the system call architecture".
use Rattle.std.specs.Prelude.{ℕ, ◌≡◌, ◌++◌, List, [], ◌∷◌, codes, Some}
use Rattle.sk_insn.specs.declared.insn.Insn.{Insn}
use Rattle.sk_insn.specs.declared.record.Record.{Record}
use Rattle.sk_filter.specs.Chains.{AllValid}
use Rattle.sk_filter.specs.Meaning.{Returned, meaning_of}
use Rattle.sk_filter.specs.Verdict.{verdict_of}
use Rattle.sk_filter.specs.VerdictText.{verdict_text}
use Rattle.sk_survey.specs.Answers.{answers_of}
use Rattle.sk_survey.specs.Settling.{without_others}
use Rattle.sk_names.specs.declared.architecture.Architecture.{Architecture}
use Rattle.sk_names.specs.Architectures.{text_of}
use Rattle.sk_survey.specs.declared.answered.Answered.{Answered}
use Rattle.sk_survey.specs.AnswersByArchitecture.{first_of, last_of, only_value, IsAnswered, IsCallBy}
use Rattle.sk_survey.specs.Text.{answered_text}

-- on a call of the architecture the filter comes to a value, and loads no word but the architecture: neither the number nor
-- the instruction pointer nor an argument
abbrev pub AnswersByArchitecture : Architecture → List Insn → Type 0
AnswersByArchitecture by insns =
    (call : Record) × IsCallBy by call
    × ((value : ℕ) × (steps : ℕ) × (meaning_of (without_others (first_of by) (last_of by) insns) call ≡ Returned value steps))

-- so does each filter of a chain
abbrev pub AllAnswerByArchitecture : Architecture → List (List Insn) → Type 0
AllAnswerByArchitecture by [] = Unit {0}
AllAnswerByArchitecture by (insns ∷ programs) = AnswersByArchitecture by insns × AllAnswerByArchitecture by programs

-- there the verdict that each call of the architecture gets is told, and written
abbrev pub OneVerdictIsTold : Type 0
OneVerdictIsTold =
    (programs : List (List Insn)) → AllValid programs → (it : Answered) → IsAnswered programs it
    → AllAnswerByArchitecture it.architecture programs → (call : Record) → IsCallBy it.architecture call
    → (only_value (answers_of it.row.answers) ≡ Some (verdict_of programs call))
    × (answered_text it ≡ text_of it.architecture ++ (codes " " ++ (verdict_text (verdict_of programs call) ++ codes "\n")))
