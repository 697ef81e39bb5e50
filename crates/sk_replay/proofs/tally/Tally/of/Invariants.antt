use Rattle.sk_text.specs.Lines.{lines_of}
use Rattle.sk_replay.proofs.Counting.{Counted}
use Rattle.sk_replay.proofs.tally.Tally.of.Given as goal

-- what was counted is what the lines say that are done
abbrev pub invariant-loop-line : goal.invariant-loop-line
invariant-loop-line l = Counted l.architecture l.calls.entries l.events l.unclear l.unclear_lines.items l.number (lines_of l.line-iterator.0.now) (lines_of l.log)
