-- What is written of architectures.
use Rattle.std.specs.Prelude.{ℕ, ◌++◌, if◌then◌else◌, List, [], codes, flat_map, Option, Some, None}
use Rattle.std.specs.Fmt.{decimal}
use Rattle.sk_survey.specs.Answers.{answers_of}
use Rattle.sk_filter.specs.VerdictText.{verdict_text}
use Rattle.sk_names.specs.declared.architecture.Architecture.{Architecture}
use Rattle.sk_names.specs.declared.architecture.Architecture.TheVariants as architecture
use Rattle.sk_names.specs.Architectures.{text_of}
use Rattle.sk_names.specs.Names.{number_on}
use Rattle.sk_survey.specs.declared.answered.Answered.{Answered}
use Rattle.sk_survey.specs.declared.other.Other.{Other}
use Rattle.sk_survey.specs.declared.other.Other.TheVariants.{Verdict, Several, Unknown}
use Rattle.sk_survey.specs.declared.told.Told.{Told}
use Rattle.sk_survey.specs.AnswersByArchitecture.{only_value}
use Rattle.sk_survey.specs.Told.{judges_calls}

-- the verdict on all its calls, if it is one
abbrev pub judged_text : Option ℕ → List ℕ
judged_text (Some value) = verdict_text value
judged_text None = codes "judged call by call"

unfoldable pub answered_text : Answered → List ℕ
answered_text it = text_of it.architecture ++ (codes " " ++ (judged_text (only_value (answers_of it.row.answers)) ++ codes "\n"))

-- the same of every other architecture
abbrev pub other_judged : Other → List ℕ
other_judged (Verdict value) = judged_text (Some value)
other_judged Several = judged_text None
other_judged Unknown = codes "not followed: each word of a call is loaded"

abbrev pub other_text : Other → List ℕ
other_text other = codes "any other " ++ (other_judged other ++ codes "\n")

-- which number is ptrace(2) there
abbrev pub there_text : Option ℕ → List ℕ
there_text (Some number) = codes ": " ++ (decimal number ++ codes " is ptrace there")
there_text None = []

abbrev pub warning_text : Architecture → List ℕ
warning_text by =
    codes "warning: " ++ (text_of by ++ (codes " calls are judged by x86-64's numbers" ++ (there_text (number_on by (codes "ptrace")) ++ codes "\n")))

abbrev pub warnings_text : Told → List ℕ
warnings_text it = (if it.i386 then warning_text architecture.I386 else []) ++ (if it.x32 then warning_text architecture.X32 else [])

-- they are told where the calls of x86-64 are judged call by call
abbrev pub warned_text : Told → List ℕ
warned_text it = if judges_calls it.all.items then warnings_text it else []

-- a line for each architecture and one for every other, and the warnings
abbrev pub arches_text : Told → List ℕ
arches_text it = flat_map answered_text it.all.items ++ (other_text it.other ++ warned_text it)
