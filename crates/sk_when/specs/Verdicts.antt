-- Calls of some numbers with the chain's verdicts on them, and what is shown of these below a row.
use Rattle.std.specs.Prelude.{ℕ, ◌≡◌, ◌≢◌, ◌==◌, Bool, true, is_some, IsTrue, List, [], ◌∷◌}
use Rattle.std.specs.List.{All, list_any}
use Rattle.sk_insn.specs.declared.insn.Insn.{Insn}
use Rattle.sk_insn.specs.declared.record.Record.{Record}
use Rattle.sk_filter.specs.Verdict.{verdict_of}
use Rattle.sk_survey.specs.declared.rows.Row.{Row}
use Rattle.sk_survey.specs.Answers.{IsCallOf}
use Rattle.sk_show.specs.Examples.{plain_call}
use Rattle.sk_show.specs.declared.survey_line.Line.{Line}
use Rattle.sk_show.specs.declared.survey_line.Shown.{Shown}
use Rattle.sk_when.specs.declared.judged.Judged.{Judged}

-- a call with one of the numbers, and the chain's verdict on it
abbrev pub IsJudged : List (List Insn) → ℕ → ℕ → Judged → Type 0
IsJudged programs first last it = IsCallOf first last it.call × (it.verdict ≡ verdict_of programs it.call)

-- the first of them has no word but its number that is not 0
abbrev pub BeginsPlain : ℕ → List Judged → Type 0
BeginsPlain first [] = ⊥
BeginsPlain first (it ∷ judged) = it.call ≡ plain_call first

-- a call with its verdict
abbrev pub judged_of : List (List Insn) → Record → Judged
judged_of programs call = record { call = call; verdict = verdict_of programs call }

-- one of the calls gets the verdict
abbrev pub have_verdict : List Judged → ℕ → Bool
have_verdict judged value = list_any (λ it. it.verdict == value) judged

-- each verdict that a call with one of the numbers gets is that of one of them
abbrev pub HaveEachVerdict : List (List Insn) → ℕ → ℕ → List Judged → Type 0
HaveEachVerdict programs first last judged =
    (call : Record) → IsCallOf first last call → have_verdict judged (verdict_of programs call) ≡ true

-- where a call of the row gets the value, one is shown that does
abbrev pub IsShownOnceMet : List (List Insn) → Row → Shown → Type 0
IsShownOnceMet programs row shown =
    programs ≢ [] → (call : Record) → IsCallOf row.first row.last call → verdict_of programs call ≡ shown.value → IsTrue (is_some shown.found)

-- so it is with each value below a line
abbrev pub ShowsEach : List (List Insn) → Line → Type 0
ShowsEach programs line = All (IsShownOnceMet programs line.row) line.shown.items
