use Rattle.sk_text.specs.Lines.{lines_of}
use Rattle.sk_replay.proofs.Logging.{Added}
use Rattle.sk_replay.proofs.logged.add_logged.Given as goal

-- what is there and was counted is what the lines say that are done
abbrev pub invariant-loop-line : goal.invariant-loop-line
invariant-loop-line l = Added l.architecture l.fn.numbers.keys l.numbers.keys l.calls l.unclear (lines_of l.line-iterator.0.now) (lines_of l.log)
