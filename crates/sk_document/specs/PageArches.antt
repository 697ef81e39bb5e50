-- What filters answer to the calls of each architecture, on a page.
use Rattle.std.specs.Prelude.{ℕ, ◌++◌, if◌then◌else◌, Bool, List, [], codes, flat_map, map, Option, Some, None}
use Rattle.sk_names.specs.declared.architecture.Architecture.{Architecture}
use Rattle.sk_names.specs.declared.architecture.Architecture.TheVariants as architecture
use Rattle.sk_names.specs.Architectures.{text_of}
use Rattle.sk_survey.specs.declared.answered.Answered.{Answered}
use Rattle.sk_survey.specs.declared.other.Other.{Other}
use Rattle.sk_survey.specs.declared.other.Other.TheVariants.{Verdict, Several, Unknown}
use Rattle.sk_survey.specs.declared.told.Told.{Told}
use Rattle.sk_survey.specs.Answers.{answers_of}
use Rattle.sk_survey.specs.AnswersByArchitecture.{only_value}
use Rattle.sk_survey.specs.Told.{warns}
use Rattle.sk_document.specs.declared.page_arches.TheConstants.{COLUMNS, MISJUDGED, WARNING}
use Rattle.sk_document.specs.Html.{element, element_at}
use Rattle.sk_document.specs.PageParts.{section, table, verdict_shown}

-- the verdict on all calls, if it is one
abbrev pub judged_shown : Option ℕ → List ℕ
judged_shown (Some value) = verdict_shown value
judged_shown None = codes "judged call by call"

-- an architecture, and what is told of its calls
unfoldable pub architecture_row : List ℕ → List ℕ → List ℕ
architecture_row name judged =
    element (codes "tr") (element_at (codes "th") (codes "scope") (codes "row") name ++ element (codes "td") judged)

-- what is told of one with a name
unfoldable pub answered_row : Answered → List ℕ
answered_row it = architecture_row (text_of it.architecture) (judged_shown (only_value (answers_of it.row.answers)))

-- what is told of all others
abbrev pub other_shown : Other → List ℕ
other_shown (Verdict value) = judged_shown (Some value)
other_shown Several = judged_shown None
other_shown Unknown = codes "not followed: each word of a call is loaded"

-- the columns of their table
unfoldable pub architecture_columns : List (List ℕ)
architecture_columns = map (λ name. name.now) COLUMNS

-- a row for each architecture, and one for all others
unfoldable pub architecture_table : Told → List ℕ
architecture_table it =
    table (codes "Of each architecture the verdict on all its calls, if it is one") architecture_columns
    (element (codes "tbody") (flat_map answered_row it.all.items ++ architecture_row (codes "any other") (other_shown it.other)))

-- what stands before an architecture that is warned of, and behind it
unfoldable pub warning_begun : List ℕ
warning_begun = WARNING.now

unfoldable pub warning_ended : List ℕ
warning_ended = MISJUDGED.now

-- the calls of an architecture are judged by the numbers of x86-64
unfoldable pub warning_shown : Architecture → List ℕ
warning_shown by = element (codes "p") (warning_begun ++ (text_of by ++ warning_ended))

-- that, where it is so
abbrev pub warned_shown : Bool → Architecture → List ℕ
warned_shown is by = if is then warning_shown by else []

-- they are told where the chain warns
abbrev pub warnings_shown : Told → List ℕ
warnings_shown it = if warns it then warned_shown it.i386 architecture.I386 ++ warned_shown it.x32 architecture.X32 else []

-- what is warned of, and the table
unfoldable pub arches_section : Told → List ℕ
arches_section it = section (codes "arches") (codes "Architectures") (warnings_shown it ++ architecture_table it)
