-- What `ask calls` tells: the text of a survey, with verdicts as people read them.
use Rattle.std.specs.Prelude.{ℕ, ◌≡◌, ◌==◌, ◌&&◌, ◌++◌, length, not, Bool, true, false, List, [], codes, flat_map, Option, Some, None}
use Rattle.std.specs.List.{All}
use Rattle.std.specs.Fmt.{decimal}
use Rattle.hex.specs.Hex.{encode_lower}
use Rattle.sk_insn.specs.declared.insn.Insn.{Insn}
use Rattle.sk_insn.specs.Record.{record_bytes}
use Rattle.sk_engines.specs.Output.{line}
use Rattle.sk_survey.specs.declared.rows.Row.{Row}
use Rattle.sk_survey.specs.Answers.{answers_of}
use Rattle.sk_survey.specs.Looks.{looks_at_architecture}
use Rattle.sk_conditions.specs.Followed.{AreFollowed}
use Rattle.sk_conditions.specs.Steps.{NeverPart}
use Rattle.sk_when.specs.Verdicts.{ShowsEach}
use Rattle.sk_show.specs.declared.example.Example.{Example}
use Rattle.sk_show.specs.declared.survey_line.Shown.{Shown}
use Rattle.sk_show.specs.declared.survey_line.Line.{Line}
use Rattle.sk_show.specs.declared.options.Options.{Options}
use Rattle.sk_show.specs.Lines.{AreLinesOf, end_told, first_told}
use Rattle.sk_show.specs.Text.{numbers_text, name_text, answers_text}
use Rattle.sk_filter.specs.VerdictText.{verdict_text}
use Rattle.sk_names.specs.declared.architecture.Architecture.{Architecture}
use Rattle.sk_document.specs.CallsDocument.{calls_document}
use Rattle.sk_ask.specs.declared.printing.Printing.{Printing}
use Rattle.sk_ask.specs.declared.printing.Printing.TheVariants.{Text, Document}
use Rattle.sk_ask.specs.Architectures.{call_on, chain_on}
use Rattle.sk_ask.specs.Calls.{OfEach}
use Rattle.sk_ask.specs.declared.only.Sought.{Sought}
use Rattle.sk_ask.specs.Endings.{Ending, answered}
use Rattle.sk_ask.specs.Only.{lines_sought}
use Rattle.sk_ask.specs.Steps.{MayBeSpent, when_steps}

-- one row: its numbers, the name of a single one, and the verdicts
unfoldable pub row_text : Architecture → Row → List ℕ
row_text by row =
    numbers_text row.first row.last
    ++ (codes " " ++ (name_text by row.first row.last ++ (codes " " ++ line (answers_text (answers_of row.answers)))))

-- what was found for a verdict: the filter, the place where it ends, and the call's record
abbrev pub found_text : Architecture → Option Example → List ℕ
found_text by None = codes " ?"
found_text by (Some example) =
    codes " filter " ++ (decimal example.filter ++ (codes " at " ++ (decimal example.place
    ++ (codes " record " ++ encode_lower (record_bytes (call_on by example.call))))))

unfoldable pub shown_text : Architecture → Shown → List ℕ
shown_text by shown = codes "  " ++ (verdict_text shown.value ++ line (found_text by shown.found))

-- a line, and those below it
unfoldable pub line_text : Architecture → Line → List ℕ
line_text by it = row_text by it.row ++ flat_map (shown_text by) it.shown.items

-- said where no filter looks at the architecture
abbrev pub unseen_text : Bool → List ℕ
unseen_text true = codes "warning: no filter looks at the architecture: calls of each are judged by their numbers alone\n"
unseen_text false = []

-- of all calls together it is said where no filter looks at the architecture
abbrev pub is_unseen : List ℕ → Bool → Bool
is_unseen calls looks = length calls == 0 && not looks

abbrev pub calls_text : Architecture → List Line → Bool → List ℕ
calls_text by lines unseen = flat_map (line_text by) lines ++ unseen_text unseen

-- the lines of a survey: as far as the steps reach that ask gives, a call is shown for each verdict that a call of a row gets, where
-- the filters are followed. Where all calls of each row go one way through each filter, the steps of no row were used up
pub record AreLinesTold (may_spend : ℕ → Bool) (options : Options) (programs : List (List Insn)) (lines : List Line) : Type 0 where
  pub told : AreLinesOf options programs lines
  pub is_spent : Bool
  pub steps : MayBeSpent may_spend when_steps is_spent
  pub each : All AreFollowed programs → is_spent ≡ false → All (ShowsEach programs) lines
  pub one_way : NeverPart (first_told options.call) (end_told options.call) programs → is_spent ≡ false

-- the lines as a text, or as a document, which says of each chain whether a filter looks at the architecture
abbrev pub calls_printed : Printing → Architecture → Bool → List Line → Bool → List ℕ
calls_printed Text by looks lines unseen = calls_text by lines unseen
calls_printed Document by looks lines unseen = calls_document by looks lines

-- the lines of all calls, or of those that are asked for, which have a verdict that is looked for, of a chain as it is for the architecture
abbrev pub TellsSurvey : (ℕ → Bool) → Printing → Architecture → Bool → List ℕ → List Sought → List (List Insn) → List ℕ → Ending → Type 0
TellsSurvey may_spend printing by examples calls only chain notes ending =
    (lines : List Line)
    × OfEach (λ call. AreLinesTold may_spend (record { architecture = by; call = call; examples = examples }) (chain_on by chain)) calls lines
    × (ending ≡ answered notes (calls_printed printing by (looks_at_architecture chain) (lines_sought only lines)
    (is_unseen calls (looks_at_architecture chain))) false)
