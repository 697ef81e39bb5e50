use Rattle.std.proofs.Common.{◌≡◌}
use Rattle.std.specs.List.{list_any}
use Rattle.std.specs.Str.{bytes_eq}
use Rattle.sk_text.specs.Lines.{words_of}
use Rattle.sk_replay.proofs.attaching.is_among.Given as goal

-- the words that are left have it where all of them have
abbrev pub invariant-loop-word : goal.invariant-loop-word
invariant-loop-word l = list_any (bytes_eq l.one) (words_of l.words.0.now) ≡ list_any (bytes_eq l.one) (words_of l.initial.words.0.now)
