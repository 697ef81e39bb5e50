use Rattle.sk_text.specs.Lines.{lines_of}
use Rattle.sk_replay.proofs.Attached.{Seen}
use Rattle.sk_replay.proofs.since.since_attached.Given as goal

-- what is known is what the lines tell that are done, and the text has those of them that are under a filter
abbrev pub invariant-loop-line : goal.invariant-loop-line
invariant-loop-line l = Seen l.architecture l.is_attached l.outside l.text.items (lines_of l.lines.0.now) (lines_of l.log)
