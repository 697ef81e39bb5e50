-- What the lines of a survey say of the chains.
use Rattle.std.specs.Prelude.{ℕ, ◌≡◌, ◌+◌, ◌^◌, Bool, true, false, is_some, IsTrue, List, [], map, Option, Some, None, IfSome, IsSomeAnd}
use Rattle.std.specs.List.{All}
use Rattle.sk_insn.specs.declared.insn.Insn.{Insn}
use Rattle.sk_names.specs.declared.architecture.Architecture.{Architecture}
use Rattle.sk_names.specs.Names.{name_on}
use Rattle.sk_survey.specs.declared.rows.Row.{Row}
use Rattle.sk_survey.specs.Answers.{answers_of}
use Rattle.sk_survey.specs.Surveys.{Tell, TellsAlone}
use Rattle.sk_show.specs.Examples.{IsExample, IsShownBy, plain_call}
use Rattle.sk_show.specs.declared.survey_line.Line.{Line}
use Rattle.sk_show.specs.declared.survey_line.Shown.{Shown}
use Rattle.sk_show.specs.declared.options.Options.{Options}

-- the numbers that are told: all, or the one that is wanted
abbrev pub first_told : Option ℕ → ℕ
first_told None = 0
first_told (Some nr) = nr

abbrev pub end_told : Option ℕ → ℕ
end_told None = 2 ^ 32
end_told (Some nr) = nr + 1

abbrev pub row_of : Line → Row
row_of line = line.row

-- the values that calls are looked for
abbrev pub wanted_values : Bool → Option (List ℕ) → List ℕ
wanted_values false values = []
wanted_values true None = []
wanted_values true (Some values) = values

-- a call that is shown has one of the row's numbers, and the verdict on it is the value; where the value is the verdict on the
-- first number's call with no other word than 0, that call is shown
pub record IsShown (programs : List (List Insn)) (row : Row) (shown : Shown) : Type 0 where
  pub found : IfSome shown.found (IsExample programs row.first row.last shown.value)
  pub plain :
      IsShownBy programs row.first row.last shown.value (plain_call row.first)
      → IsSomeAnd shown.found (λ example. example.call ≡ plain_call row.first)

-- below a row stand its values, each with a call that was found for it or without one
pub record Shows (programs : List (List Insn)) (examples : Bool) (row : Row) (shown : List Shown) : Type 0 where
  pub values : map (λ it. it.value) shown ≡ wanted_values examples (answers_of row.answers)
  pub found : All (IsShown programs row) shown

-- a row that tells a number with a name on the architecture tells no other
abbrev pub TellsNamedAlone : Architecture → Row → Type 0
TellsNamedAlone architecture row = (nr : ℕ) → IsTrue (is_some (name_on architecture nr)) → TellsAlone nr row

-- the lines of one chain: their rows tell all numbers that are wanted, and those with a name each alone
pub record AreLinesOf (options : Options) (programs : List (List Insn)) (lines : List Line) : Type 0 where
  pub rows : Tell programs (first_told options.call) (end_told options.call) (map row_of lines)
  pub alone : All (TellsNamedAlone options.architecture) (map row_of lines)
  pub shows : All (λ line. Shows programs options.examples line.row line.shown.items) lines
