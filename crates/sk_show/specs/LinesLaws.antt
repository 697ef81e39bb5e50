-- Laws on the calls that are shown below a row.
use Rattle.std.specs.Prelude.{ℕ, ◌≡◌, ◌≢◌, ◌≤◌, true, is_some, IsTrue, List, [], Some}
use Rattle.std.specs.List.{Any}
use Rattle.sk_insn.specs.declared.insn.Insn.{Insn}
use Rattle.sk_survey.specs.declared.rows.Row.{Row}
use Rattle.sk_survey.specs.Answers.{answers_of}
use Rattle.sk_survey.specs.Surveys.{Holds}
use Rattle.sk_show.specs.declared.survey_line.Shown.{Shown}
use Rattle.sk_show.specs.Lines.{Shows}

-- where there is a filter and values are told, a call is shown for one of them; so where one value is told, for that one
abbrev pub SomeCallIsShown : Type 0
SomeCallIsShown =
    (programs : List (List Insn)) → programs ≢ [] → (row : Row) → row.first ≤ row.last → Holds programs row
    → (values : List ℕ) → answers_of row.answers ≡ Some values → (shown : List Shown) → Shows programs true row shown
    → Any (λ it. IsTrue (is_some it.found)) shown
