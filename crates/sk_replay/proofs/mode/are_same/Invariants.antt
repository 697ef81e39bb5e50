use Rattle.std.proofs.Common.{◌≡◌}
use Rattle.std.specs.Cmp.Lexicographic.{pointwise}
use Rattle.std.specs.Str.{bytes_eq}
use Rattle.sk_text.specs.Lines.{words_of}
use Rattle.sk_replay.proofs.mode.are_same.Given as goal

-- the words that are left are the same where all of them are
abbrev pub invariant-loop-word : goal.invariant-loop-word
invariant-loop-word l =
    pointwise bytes_eq (words_of l.words.0.now) (words_of l.others.0.now)
    ≡ pointwise bytes_eq (words_of l.initial.words.0.now) (words_of l.initial.others.0.now)
