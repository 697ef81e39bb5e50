use Rattle.std.proofs.Common.{◌≡◌, ◌+◌, ◌≤◌, length}
use Rattle.sk_text.specs.Lines.{lines_of}
use Rattle.sk_ask.specs.Filters.{with_lines}
use Rattle.sk_ask.specs.Finding.{filters_of}
use Rattle.sk_ask.proofs.lines.with_lines.Given as goal

abbrev pub invariant-loop-line : goal.invariant-loop-line
invariant-loop-line l = record {
  count : l.number + length (lines_of l.line-iterator.0.now) ≤ 1 + length (lines_of l.text);
  so_far : with_lines l.file l.number (filters_of l.found) (lines_of l.line-iterator.0.now) ≡ with_lines l.file 1 (filters_of l.fn.before) (lines_of l.text);
}
