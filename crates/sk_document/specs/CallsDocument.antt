-- What `ask calls` tells, as a document.
use Rattle.std.specs.Prelude.{ℕ, ◌++◌, Bool, List, codes, flat_map, Option}
use Rattle.json.specs.Token.{Token}
use Rattle.sk_arguments.specs.declared.naming.Naming.TheVariants.{Constants}
use Rattle.sk_names.specs.declared.architecture.Architecture.{Architecture}
use Rattle.sk_survey.specs.Answers.{answers_of}
use Rattle.sk_show.specs.declared.example.Example.{Example}
use Rattle.sk_show.specs.declared.survey_line.Line.{Line}
use Rattle.sk_show.specs.declared.survey_line.Shown.{Shown}
use Rattle.sk_show.specs.Text.{answers_text}
use Rattle.sk_when.specs.declared.names.Names.{Names}
use Rattle.sk_when.specs.Naming.{names_of}
use Rattle.sk_document.specs.Documents.{array, at, boolean_at, document, maybe, number_at, object, string_at, word_at}
use Rattle.sk_document.specs.Verdicts.{verdict, verdicts_at}
use Rattle.sk_document.specs.Numbers.{architecture_at, numbers}
use Rattle.sk_document.specs.Calls.{call}

-- a call, and the filter and the instruction that its verdict comes from
unfoldable pub example : Names → Example → List Token
example names it =
    object (number_at (codes "filter") it.filter ++ (number_at (codes "instruction") it.place ++ (at (codes "call") ++ call names it.call)))

-- a verdict, with a call that was found for it
unfoldable pub shown : Names → Shown → List Token
shown names it = object (at (codes "verdict") ++ (verdict it.value ++ (at (codes "found") ++ maybe (example names) it.found)))

-- the verdicts that may come, and their text
unfoldable pub answers_at : Option (List ℕ) → List Token
answers_at answers = verdicts_at answers ++ string_at (codes "text") (answers_text answers)

-- calls that show the verdicts of a row
unfoldable pub examples_at : Names → Line → List Token
examples_at names it = at (codes "examples") ++ array (flat_map (shown names) it.shown.items)

-- a row: numbers, the verdicts of their calls, and calls that show these
unfoldable pub calls_row : Names → Line → List Token
calls_row names it =
    object (numbers names.architecture it.row.first it.row.last
    ++ (answers_at (answers_of it.row.answers) ++ examples_at names it))

-- the rows in their order
unfoldable pub rows_at : Names → List Line → List Token
rows_at names lines = at (codes "rows") ++ array (flat_map (calls_row names) lines)

-- whether the filters look at the architecture
unfoldable pub looks_at : Bool → List Token
looks_at looks = boolean_at (codes "looks_at_architecture") looks

-- the rows of an architecture, and whether the filters look at it
unfoldable pub calls_tokens : Architecture → Bool → List Line → List Token
calls_tokens architecture looks lines =
    object (word_at (codes "calls")
    ++ (architecture_at architecture
    ++ (looks_at looks
    ++ rows_at (names_of Constants architecture) lines)))

-- the text of that
abbrev pub calls_document : Architecture → Bool → List Line → List ℕ
calls_document architecture looks lines = document (calls_tokens architecture looks lines)
