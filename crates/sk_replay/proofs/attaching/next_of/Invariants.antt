use Rattle.std.proofs.Common.{◌≡◌}
use Rattle.sk_text.specs.Lines.{lines_of}
use Rattle.sk_replay.specs.Since.{next_of}
use Rattle.sk_replay.proofs.attaching.next_of.Given as goal

-- the lines that are left have the line where all of them have it
abbrev pub invariant-loop-room : goal.invariant-loop-room
invariant-loop-room l = next_of l.room l.process (lines_of l.lines.0.now) ≡ next_of 256 l.process (lines_of l.behind)
