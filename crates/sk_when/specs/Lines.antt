-- The lines of a row, and what they tell of a call.
use Rattle.std.specs.Prelude.{ℕ, ◌≡◌, true, List, [], ◌∷◌, Option, Some, None}
use Rattle.std.specs.List.{All}
use Rattle.sk_insn.specs.declared.insn.Insn.{Insn}
use Rattle.sk_insn.specs.declared.record.Record.{Record}
use Rattle.sk_filter.specs.Verdict.{verdict_of}
use Rattle.sk_survey.specs.Answers.{IsAmong, IsCallOf, answers_of}
use Rattle.sk_conditions.specs.Conditions.{Agrees}
use Rattle.sk_terms.specs.Lines.{meets_line, told_by}
use Rattle.sk_terms.specs.Numbers.{TellsNoWhole}
use Rattle.sk_when.specs.declared.row.ConditionalRow.{ConditionalRow}

-- the values of the lines that a call meets, or of the line `else` where it meets none
abbrev pub or_else : List (Option ℕ) → Option ℕ → List (Option ℕ)
or_else [] otherwise = otherwise ∷ []
or_else (value ∷ values) otherwise = value ∷ values

abbrev pub told_of : ConditionalRow → Record → List (Option ℕ)
told_of told call = or_else (told_by told.lines.items call) told.otherwise

-- a line's value is the verdict; a line without one tells those of the survey, and the verdict is among these
abbrev pub IsVerdict : Option (List ℕ) → ℕ → Option ℕ → Type 0
IsVerdict answers verdict (Some value) = value ≡ verdict
IsVerdict answers verdict None = IsAmong verdict answers

-- every call with one of the row's numbers meets just one line, else that with `else`; it tells the chain's verdict
abbrev pub IsTold : List (List Insn) → ConditionalRow → Type 0
IsTold programs told =
    (call : Record) → IsCallOf told.row.first told.row.last call
    → (value : Option ℕ) × (told_of told call ≡ value ∷ []) × IsVerdict (answers_of told.row.answers) (verdict_of programs call) value

-- so it does where no verdicts are told in place of the verdict
abbrev pub IsExact : List (List Insn) → ConditionalRow → Type 0
IsExact programs told =
    (call : Record) → IsCallOf told.row.first told.row.last call → told_of told call ≡ Some (verdict_of programs call) ∷ []

-- each line is met by a call with one of the row's numbers, whose verdict is the line's value where it has one; some such call
-- meets no line, and so it is with that of `else`; and no line tells a range of numbers that is all of the row's
pub record IsMet (programs : List (List Insn)) (told : ConditionalRow) : Type 0 where
  pub lines : All (λ line. (call : Record) × IsCallOf told.row.first told.row.last call × (meets_line line call ≡ true)
      × Agrees line.value (verdict_of programs call)) told.lines.items
  pub otherwise : (call : Record) × IsCallOf told.row.first told.row.last call × (told_by told.lines.items call ≡ [])
      × Agrees told.otherwise (verdict_of programs call)
  pub numbers : All (TellsNoWhole told.row.first told.row.last) told.lines.items
