-- The text of `ask when`: rows as those of `ask calls`, and under which condition of C each verdict comes.
use Rattle.std.specs.Prelude.{ℕ, ◌++◌, List, [], ◌∷◌, length, codes, flat_map, Option, Some, None}
use Rattle.sk_when.specs.Naming.{constants_of}
use Rattle.sk_when.specs.declared.names.Names.{Names}
use Rattle.sk_engines.specs.Output.{line}
use Rattle.sk_survey.specs.Answers.{answers_of}
use Rattle.sk_show.specs.Text.{numbers_text, name_text, answers_text}
use Rattle.sk_terms.specs.declared.lines.Line.{Line}
use Rattle.sk_terms.specs.Text.{condition_text}
use Rattle.sk_filter.specs.VerdictText.{verdict_text}
use Rattle.sk_when.specs.Filling.{filled_behind}
use Rattle.sk_when.specs.declared.row.ConditionalRow.{ConditionalRow}

-- a verdict, or those that the survey tells where it is not followed
abbrev pub value_text : Option (List ℕ) → Option ℕ → List ℕ
value_text answers (Some value) = verdict_text value
value_text answers None = answers_text answers

-- what stands before a condition
unfoldable pub before_text : Option (List ℕ) → Option ℕ → List ℕ
before_text answers value = codes "  " ++ (value_text answers value ++ codes " where ")

-- a verdict and its condition, with the constants of a call where one is given
unfoldable pub line_text : Option ℕ → Option (List ℕ) → Line → List ℕ
line_text call answers it =
    before_text answers it.value ++ line (filled_behind (length (before_text answers it.value)) (condition_text call it))

-- one verdict behind the numbers and the name, or lines below them, the last one with `else`
abbrev pub ends_text : Option ℕ → Option (List ℕ) → Option ℕ → List Line → List ℕ
ends_text call answers otherwise [] = codes " " ++ line (value_text answers otherwise)
ends_text call answers otherwise (first ∷ lines) =
    line [] ++ (flat_map (line_text call answers) (first ∷ lines) ++ (codes "  " ++ (value_text answers otherwise ++ line (codes " else"))))

-- one row: its numbers, the name that a single one has on the architecture, and the verdicts
unfoldable pub row_text : Names → ConditionalRow → List ℕ
row_text names told =
    numbers_text told.row.first told.row.last
    ++ (codes " " ++ (name_text names.architecture told.row.first told.row.last
    ++ ends_text (constants_of names told.row.first told.row.last) (answers_of told.row.answers) told.otherwise told.lines.items))

abbrev pub when_text : Names → List ConditionalRow → List ℕ
when_text names rows = flat_map (row_text names) rows
