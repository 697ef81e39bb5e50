-- The verdicts that are looked for, and the rows that have one.
use Rattle.std.specs.Prelude.{ℕ, ◌==◌, ◌||◌, Bool, true, if◌then◌else◌, List, length, filter, Option, Some, None}
use Rattle.std.specs.List.{list_any}
use Rattle.std.specs.Option.{option_map}
use Rattle.sk_insn.specs.Actions.{action_part, has_value, value_of}
use Rattle.sk_policy_text.specs.Verdicts.{action_in, action_value, has_slash}
use Rattle.sk_survey.specs.Answers.{answers_of}
use Rattle.sk_show.specs.declared.survey_line.Line.{Line}
use Rattle.sk_when.specs.declared.row.ConditionalRow.{ConditionalRow}
use Rattle.sk_ask.specs.declared.only.Sought.{Sought}
use Rattle.sk_ask.specs.declared.only.Sought.TheVariants.{Of, Value}

-- what a word looks for: a verdict as policies have it, with its data behind a slash, or those of an action, whatever their data are
abbrev pub sought_named : List ℕ → Option Sought
sought_named word = if has_slash word then option_map Value (action_value word) else option_map Of (action_in word)

-- a verdict that is looked for
abbrev pub is_sought : ℕ → Sought → Bool
is_sought value (Of action) = has_value (action_part value) (value_of action)
is_sought value (Value wanted) = value == wanted

-- one of those that are looked for
abbrev pub is_any_sought : List Sought → ℕ → Bool
is_any_sought only value = list_any (is_sought value) only

-- the verdicts of a row have one; where they may be any, they do
abbrev pub have_sought : List Sought → Option (List ℕ) → Bool
have_sought only None = true
have_sought only (Some values) = list_any (is_any_sought only) values

abbrev pub line_has_sought : List Sought → Line → Bool
line_has_sought only line = have_sought only (answers_of line.row.answers)

-- a line of a row is of one, or has no verdict of its own, and the row's verdicts have one
abbrev pub end_has_sought : List Sought → Option (List ℕ) → Option ℕ → Bool
end_has_sought only answers None = have_sought only answers
end_has_sought only answers (Some value) = is_any_sought only value

-- so does a line of it, or the line `else`
abbrev pub row_has_sought : List Sought → ConditionalRow → Bool
row_has_sought only it =
    end_has_sought only (answers_of it.row.answers) it.otherwise
    || list_any (λ line. end_has_sought only (answers_of it.row.answers) line.value) it.lines.items

-- the rows that have one; all, where nothing is looked for
abbrev pub lines_sought : List Sought → List Line → List Line
lines_sought only lines = if length only == 0 then lines else filter (line_has_sought only) lines

abbrev pub rows_sought : List Sought → List ConditionalRow → List ConditionalRow
rows_sought only rows = if length only == 0 then rows else filter (row_has_sought only) rows
