use Rattle.std.proofs.Common.{◌≡◌, ◌≤◌, ◌+◌, length}
use Rattle.sk_scenario.proofs.Common.{lines_of, reading, nothing_yet, Nothing, gained, known_seen, block_seen}
use Rattle.sk_scenario.proofs.reading.read_lines.Given as goal

-- the lines that are left give with what was gained what all lines give
abbrev pub invariant-loop-line : goal.invariant-loop-line
invariant-loop-line l = record {
  few : l.n + length (lines_of l.lines.0.now) ≤ 1048576;
  same : l.ahead ≡ l.lines.0.now;
  so_far : reading (known_seen l.known) (l.n + 1) (gained l.done) (block_seen l.current) (lines_of l.lines.0.now) ≡ reading (known_seen l.known) 1 nothing_yet Nothing (lines_of l.text);
}

-- each line is read once
abbrev pub decreases-loop-line : goal.decreases-loop-line
decreases-loop-line l = length (lines_of l.lines.0.now)
