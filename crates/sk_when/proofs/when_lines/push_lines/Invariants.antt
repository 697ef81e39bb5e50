use Rattle.std.proofs.Common.{◌≡◌, ◌++◌, take, flat_map, string_bytes}
use Rattle.sk_survey.specs.Answers.{answers_of}
use Rattle.sk_when.specs.WhenText.{line_text}
use Rattle.sk_when.proofs.when_lines.push_lines.Given as goal

abbrev pub invariant-loop-line : goal.invariant-loop-line
invariant-loop-line l = string_bytes l.text ≡ string_bytes l.initial.text ++ flat_map (line_text l.call (answers_of l.answers)) (take l.line-index l.lines)
