-- The report of a scenario: a line for each turn, and a line for the end. It is a function of what the scenario says, and knows no
-- engine.
use Rattle.std.specs.Prelude.{ℕ, zero, suc, ◌++◌, List, [], ◌∷◌, map, Result, Ok, Err}
use Rattle.std.specs.List.{concat}
use Rattle.sk_scenario.specs.Scenario.{Setting}
use Rattle.sk_run.specs.declared.turn.End.{End}
use Rattle.sk_run.specs.declared.turn.End.TheVariants.{Limit}
use Rattle.sk_run.specs.declared.turn.ReportLine.{ReportLine}
use Rattle.sk_run.specs.declared.turn.ReportLine.TheVariants as turn
use Rattle.sk_run.specs.Scheduling.{Scheduled, opened, runner_of, turn_by, after_turn_by}
use Rattle.sk_run.specs.Text.{turn_text}

-- the turns, and the end
pub record Report : Type 0 where
  pub turns : List ReportLine
  pub end : End

-- no turn, and this end
abbrev pub ended : End → Report
ended end = record { turns = []; end = end }

-- this turn first
abbrev pub onto : ReportLine → Report → Report
onto turn report = record report { turns = turn ∷ report.turns }

-- where no turn is left it is the end, by this reason if there is no other
abbrev pub all_used : Result ℕ End → End
all_used (Ok pid) = Limit
all_used (Err end) = end

-- the report from here on, where so many turns are left
unfoldable pub report_from : ℕ → Setting → Scheduled → Report
report_from zero setting s = ended (all_used (runner_of s))
report_from (suc left) setting s =
    elim (runner_of s) [ Ok pid ↦ onto (turn_by setting s pid) (report_from left setting (after_turn_by setting s pid)) | Err end ↦ ended end ]

abbrev pub report_of : Setting → Report
report_of setting = report_from setting.turns setting opened

-- its lines, each with the line feed that ends it
abbrev pub line : ReportLine → List ℕ
line turn = turn_text turn ++ 10 ∷ []

abbrev pub lines_of : Report → List (List ℕ)
lines_of report = map line (report.turns ++ turn.End report.end ∷ [])

-- its text
abbrev pub text_of : Report → List ℕ
text_of report = concat (lines_of report)

-- the lines of the first so many turns
abbrev pub turns_text : List ReportLine → List ℕ
turns_text turns = concat (map line turns)
