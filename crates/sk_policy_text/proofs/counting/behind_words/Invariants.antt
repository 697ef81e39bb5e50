use Rattle.std.proofs.Common.{◌≡◌, ◌+◌, length}
use Rattle.sk_policy_text.specs.PolicyRows.{sentences_of}
use Rattle.sk_policy_text.specs.PolicySizes.{words_below}
use Rattle.sk_policy_text.proofs.counting.behind_words.Given as goal

abbrev pub invariant-loop-first : goal.invariant-loop-first
invariant-loop-first l = l.room + words_below (sentences_of l.text) ≡ l.fn.most + words_below (sentences_of l.left)

abbrev pub decreases-loop-first : goal.decreases-loop-first
decreases-loop-first l = length l.left
