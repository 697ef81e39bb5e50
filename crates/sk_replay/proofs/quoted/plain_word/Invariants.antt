use Rattle.std.proofs.Common.{◌≡◌, length}
use Rattle.sk_replay.specs.CallWords.{cut_all, plain_of, with_addresses}
use Rattle.sk_replay.proofs.Given.{behind}
use Rattle.sk_replay.proofs.quoted.plain_word.Given as goal

-- what is done and what is left make what all make
abbrev pub invariant-loop-outside : goal.invariant-loop-outside
invariant-loop-outside l = behind l.plain.items (with_addresses (cut_all 34 l.rest)) ≡ plain_of l.word

abbrev pub decreases-loop-outside : goal.decreases-loop-outside
decreases-loop-outside l = length l.rest
