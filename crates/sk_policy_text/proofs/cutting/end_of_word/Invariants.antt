use Rattle.std.proofs.Common.{◌≡◌, ◌≤◌, ◌-◌, [], length, take, drop}
use Rattle.sk_policy_text.specs.Words.{words_behind}
use Rattle.sk_policy_text.proofs.cutting.end_of_word.Given as goal

-- a word up to here that may go on, and what stands behind it, are the words of the line
abbrev pub invariant-loop-end : goal.invariant-loop-end
invariant-loop-end l = record {
  some : 1 ≤ l.end;
  within : l.end ≤ length l.line;
  words : words_behind (take l.end l.line) (drop l.end l.line) ≡ words_behind [] l.line;
}

abbrev pub decreases-loop-end : goal.decreases-loop-end
decreases-loop-end l = length l.line - l.end
