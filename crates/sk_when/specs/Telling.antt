-- What the rows of `ask when` tell of a chain.
use Rattle.std.specs.Prelude.{ℕ, ◌≡◌, ◌≢◌, ◌≤◌, Bool, false, List, map, Option, None}
use Rattle.std.specs.List.{All}
use Rattle.sk_names.specs.declared.architecture.Architecture.{Architecture}
use Rattle.sk_insn.specs.declared.insn.Insn.{Insn}
use Rattle.sk_conditions.specs.Followed.{AreFollowed}
use Rattle.sk_survey.specs.declared.rows.Row.{Row}
use Rattle.sk_survey.specs.Answers.{ChainAnswersAmong, answers_of}
use Rattle.sk_survey.specs.Surveys.{Tell}
use Rattle.sk_show.specs.Lines.{first_told, end_told, TellsNamedAlone}
use Rattle.sk_when.specs.declared.row.ConditionalRow.{ConditionalRow}
use Rattle.sk_when.specs.Lines.{IsExact, IsMet, IsTold}

abbrev pub row_told : ConditionalRow → Row
row_told told = told.row

-- the rows tell all numbers, or the one that is asked for, those with a name on the architecture each alone, and of each call
-- the verdict or several, by lines of which each is met by some call; where the filters are followed, and the steps of no row were
-- spent, it is the verdict
pub record AreTold (architecture : Architecture) (call : Option ℕ) (programs : List (List Insn)) (is_spent : Bool) (all : List ConditionalRow) : Type 0 where
  pub rows : Tell programs (first_told call) (end_told call) (map row_told all)
  pub alone : All (TellsNamedAlone architecture) (map row_told all)
  pub told : All (IsTold programs) all
  pub met : All (IsMet programs) all
  pub exact : All AreFollowed programs → is_spent ≡ false → All (IsExact programs) all

-- a row of a survey has a number, and its verdicts are among those that it tells
abbrev pub IsSurveyed : List (List Insn) → Row → Type 0
IsSurveyed programs row = (row.first ≤ row.last) × ChainAnswersAmong programs row.first row.last (answers_of row.answers)

-- each line tells a verdict, and so does `else`
abbrev pub HasVerdicts : ConditionalRow → Type 0
HasVerdicts told = All (λ line. line.value ≢ None) told.lines.items × (told.otherwise ≢ None)

-- all rows of filters that are followed do, unless the steps of a row were spent
abbrev pub FollowedRowsHaveVerdicts : Type 0
FollowedRowsHaveVerdicts =
    (architecture : Architecture) (programs : List (List Insn)) (rows : List ConditionalRow) → All AreFollowed programs
    → AreTold architecture None programs false rows → All HasVerdicts rows
