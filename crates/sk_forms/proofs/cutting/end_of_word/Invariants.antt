use Rattle.std.proofs.Common.{◌≡◌, ◌≤◌, ◌-◌, [], length, take, drop}
use Rattle.sk_forms.specs.Words.{words_behind}
use Rattle.sk_forms.proofs.cutting.end_of_word.Given as goal

-- a word up to here that may go on, and what stands behind it, are the words of the text
abbrev pub invariant-loop-end : goal.invariant-loop-end
invariant-loop-end l = record {
  some : 1 ≤ l.end;
  within : l.end ≤ length l.text;
  words : words_behind (take l.end l.text) (drop l.end l.text) ≡ words_behind [] l.text;
}

abbrev pub decreases-loop-end : goal.decreases-loop-end
decreases-loop-end l = length l.text - l.end
