use Rattle.std.proofs.Common.{◌≡◌}
use Rattle.sk_text.specs.Lines.{words_of}
use Rattle.sk_replay.specs.Lines.{said, said_in}
use Rattle.sk_replay.proofs.line.said_in.Given as goal

-- the words that are left say what all of them say
abbrev pub invariant-loop-word : goal.invariant-loop-word
invariant-loop-word l = said l.architecture (words_of l.words.0.now) l.text ≡ said_in l.architecture l.line
