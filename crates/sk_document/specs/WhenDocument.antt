-- What `ask when` tells, as a document.
use Rattle.std.specs.Prelude.{ℕ, ◌++◌, List, codes, flat_map, Option}
use Rattle.json.specs.Token.{Token}
use Rattle.sk_survey.specs.Answers.{answers_of}
use Rattle.sk_terms.specs.declared.lines.Line.{Line}
use Rattle.sk_when.specs.declared.names.Names.{Names}
use Rattle.sk_when.specs.declared.row.ConditionalRow.{ConditionalRow}
use Rattle.sk_when.specs.Naming.{constants_of}
use Rattle.sk_document.specs.Documents.{array, at, document, object, word_at}
use Rattle.sk_document.specs.Verdicts.{maybe_verdict, verdicts_at}
use Rattle.sk_document.specs.Numbers.{architecture_at, numbers}
use Rattle.sk_document.specs.Terms.{condition}

-- a verdict, or none for one of the row's, and the condition under which it comes
unfoldable pub when_line : Option ℕ → Line → List Token
when_line constants line = object (at (codes "verdict") ++ (maybe_verdict line.value ++ condition constants line))

-- the lines of a row in their order
unfoldable pub lines_at : Option ℕ → List Line → List Token
lines_at constants lines = at (codes "lines") ++ array (flat_map (when_line constants) lines)

-- the verdict on all other calls
unfoldable pub otherwise_at : Option ℕ → List Token
otherwise_at value = at (codes "otherwise") ++ maybe_verdict value

-- a row: numbers, the verdicts of their calls, when each comes, and the verdict on all other calls
unfoldable pub when_row : Names → ConditionalRow → List Token
when_row names told =
    object (numbers names.architecture told.row.first told.row.last
    ++ (verdicts_at (answers_of told.row.answers)
    ++ (lines_at (constants_of names told.row.first told.row.last) told.lines.items ++ otherwise_at told.otherwise)))

-- the rows in their order
unfoldable pub rows_at : Names → List ConditionalRow → List Token
rows_at names rows = at (codes "rows") ++ array (flat_map (when_row names) rows)

-- the rows of an architecture
unfoldable pub when_tokens : Names → List ConditionalRow → List Token
when_tokens names rows =
    object (word_at (codes "when")
    ++ (architecture_at names.architecture ++ rows_at names rows))

-- the text of that
abbrev pub when_document : Names → List ConditionalRow → List ℕ
when_document names rows = document (when_tokens names rows)
