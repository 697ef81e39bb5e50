use Rattle.std.proofs.Common.{◌≡◌, ℕ, ◌<◌, ◌≤◌, length, Option, slice_get}
use Rattle.sk_insn.specs.declared.record.Record.{Record}
use Rattle.sk_survey.specs.Following.{DescribesWord, KeepCommonWords}
use Rattle.sk_survey.proofs.known.join_words.Given as goal

abbrev pub invariant-loop-k : goal.invariant-loop-k
invariant-loop-k l = record {
  sized : length l.words ≡ 16;
  one : (j : ℕ) → j < 16 → (call : Record) (word : Option ℕ) → DescribesWord (slice_get l.initial.words j) call word → DescribesWord (slice_get l.words j) call word;
  other : (j : ℕ) → j < l.k → (call : Record) (word : Option ℕ) → DescribesWord (slice_get l.others j) call word → DescribesWord (slice_get l.words j) call word;
  common : KeepCommonWords l.initial.words l.others l.words;
  rest : (j : ℕ) → l.k ≤ j → slice_get l.words j ≡ slice_get l.initial.words j;
}
