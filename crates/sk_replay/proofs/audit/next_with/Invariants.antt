use Rattle.std.proofs.Common.{◌≡◌}
use Rattle.sk_text.specs.Lines.{words_of}
use Rattle.sk_replay.proofs.Marks.{with_key}
use Rattle.sk_replay.proofs.audit.next_with.Given as goal

-- the words that are left have all that begin with the key
abbrev pub invariant-loop-word : goal.invariant-loop-word
invariant-loop-word l = with_key l.key (words_of l.words.0.now) ≡ with_key l.key (words_of l.initial.words.0.now)
