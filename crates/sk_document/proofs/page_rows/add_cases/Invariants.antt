use Rattle.std.proofs.Common.{◌≡◌, ◌++◌, take, flat_map}
use Rattle.sk_survey.specs.Answers.{answers_of}
use Rattle.sk_document.specs.PageRows.{case_shown}
use Rattle.sk_document.proofs.page_rows.add_cases.Given as goal

abbrev pub invariant-loop-line : goal.invariant-loop-line
invariant-loop-line l = l.to ≡ l.initial.to ++ flat_map (case_shown l.constants (answers_of l.answers)) (take l.line-index l.lines)
