-- What `ask arches` tells, as a document.
use Rattle.std.specs.Prelude.{ℕ, ◌++◌, if◌then◌else◌, Bool, true, false, List, [], codes, flat_map, Option, Some, None}
use Rattle.json.specs.Token.{Token}
use Rattle.sk_names.specs.declared.architecture.Architecture.{Architecture}
use Rattle.sk_names.specs.declared.architecture.Architecture.TheVariants as architecture
use Rattle.sk_names.specs.Architectures.{text_of}
use Rattle.sk_names.specs.Names.{number_on}
use Rattle.sk_survey.specs.declared.answered.Answered.{Answered}
use Rattle.sk_survey.specs.declared.other.Other.{Other}
use Rattle.sk_survey.specs.declared.other.Other.TheVariants.{Verdict, Several, Unknown}
use Rattle.sk_survey.specs.declared.told.Told.{Told}
use Rattle.sk_survey.specs.Answers.{answers_of}
use Rattle.sk_survey.specs.AnswersByArchitecture.{only_value}
use Rattle.sk_survey.specs.Told.{warns}
use Rattle.sk_document.specs.Documents.{array, at, boolean_at, counted, document, maybe, object, string_at, word_at}
use Rattle.sk_document.specs.Numbers.{architecture_at}
use Rattle.sk_document.specs.Verdicts.{maybe_verdict}

-- an architecture, and the verdict on all its calls, if it is one
unfoldable pub answered : Answered → List Token
answered it =
    object (string_at (codes "name") (text_of it.architecture)
    ++ (at (codes "verdict") ++ maybe_verdict (only_value (answers_of it.row.answers))))

-- whether the chain could be followed, and the verdict on all calls of other architectures, if it is one
unfoldable pub followed : Bool → Option ℕ → List Token
followed is value = object (boolean_at (codes "followed") is ++ (at (codes "verdict") ++ maybe_verdict value))

-- what is told of them
abbrev pub other_answered : Other → List Token
other_answered (Verdict value) = followed true (Some value)
other_answered Several = followed true None
other_answered Unknown = followed false None

-- the number that is ptrace(2) on an architecture, if one is
unfoldable pub ptrace_at : Architecture → List Token
ptrace_at by = at (codes "ptrace") ++ maybe counted (number_on by (codes "ptrace"))

-- an architecture whose calls are judged by the numbers of x86-64
unfoldable pub warning : Architecture → List Token
warning by = object (architecture_at by ++ ptrace_at by)

-- a warning, where there is one
abbrev pub warned : Bool → Architecture → List Token
warned is by = if is then warning by else []

-- they are told where the chain warns
abbrev pub warnings : Told → List Token
warnings it = if warns it then warned it.i386 architecture.I386 ++ warned it.x32 architecture.X32 else []

-- what the chain answers to each architecture
unfoldable pub architectures_at : Told → List Token
architectures_at it = at (codes "architectures") ++ array (flat_map answered it.all.items)

-- what it answers to all others
unfoldable pub other_at : Told → List Token
other_at it = at (codes "other") ++ other_answered it.other

-- what is warned of
unfoldable pub warnings_at : Told → List Token
warnings_at it = at (codes "warnings") ++ array (warnings it)

-- what is told of a chain
unfoldable pub arches_tokens : Told → List Token
arches_tokens it =
    object (word_at (codes "arches") ++ (architectures_at it ++ (other_at it ++ warnings_at it)))

-- the text of that
abbrev pub arches_document : Told → List ℕ
arches_document it = document (arches_tokens it)
