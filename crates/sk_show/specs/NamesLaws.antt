-- Laws on the names of lines, by the rows that they tell.
use Rattle.std.specs.Prelude.{ℕ, ◌≡◌, ◌≤◌, ◌<◌, is_some, IsTrue, List, codes, None}
use Rattle.std.specs.List.{All, Any}
use Rattle.std.specs.Option.{unwrap_or}
use Rattle.sk_insn.specs.declared.insn.Insn.{Insn}
use Rattle.sk_names.specs.declared.architecture.Architecture.{Architecture}
use Rattle.sk_names.specs.Names.{name_on}
use Rattle.sk_survey.specs.declared.rows.Row.{Row}
use Rattle.sk_survey.specs.Surveys.{Tell}
use Rattle.sk_show.specs.Lines.{TellsNamedAlone}
use Rattle.sk_show.specs.Text.{name_text}

-- the name that a line of these numbers has is that of each of them on the architecture, and `-` for one without a name
abbrev pub NameIsOfEach : Type 0
NameIsOfEach =
    (architecture : Architecture) (row : Row) (nr : ℕ) → TellsNamedAlone architecture row → row.first ≤ nr → nr ≤ row.last
    → name_text architecture row.first row.last ≡ unwrap_or (name_on architecture nr) (codes "-")

-- where it is `-`, none of them has a name
abbrev pub NoNameIsHidden : Type 0
NoNameIsHidden =
    (architecture : Architecture) (row : Row) (nr : ℕ) → TellsNamedAlone architecture row → row.first ≤ nr → nr ≤ row.last
    → name_text architecture row.first row.last ≡ codes "-" → name_on architecture nr ≡ None

-- among rows that tell some numbers, each of these that has a name has a row by itself
abbrev pub NamedHasARow : Type 0
NamedHasARow =
    (architecture : Architecture) (programs : List (List Insn)) (from end nr : ℕ) (rows : List Row) → Tell programs from end rows
    → All (TellsNamedAlone architecture) rows
    → from ≤ nr → nr < end → IsTrue (is_some (name_on architecture nr)) → Any (λ row. (row.first ≡ nr) × (row.last ≡ nr)) rows
