use Rattle.std.proofs.Common.{◌≡◌, ◌≤◌, ◌+◌, length, map}
use Rattle.sk_text.specs.Lines.{lines_of}
use Rattle.sk_policy_text.specs.Words.{seen, words_with, words_of_text}
use Rattle.sk_policy_text.proofs.reading.words_in.Given as goal

-- the words so far, and those of the lines that are left, are those of the text
abbrev pub invariant-loop-line : goal.invariant-loop-line
invariant-loop-line l = record {
  few : l.number + length (lines_of l.line-iterator.0.now) ≤ length l.text;
  words : words_with (map seen l.words.items) (l.number + 1) (lines_of l.line-iterator.0.now) ≡ words_of_text l.text;
}
