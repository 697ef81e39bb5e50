use Rattle.std.proofs.Common.{◌≡◌, ◌++◌, length}
use Rattle.std.specs.List.{concat}
use Rattle.sk_text.specs.Lines.{words_of}
use Rattle.sk_text.proofs.hexadecimal.joined.Given as goal

-- the digits that are there, and those of the words that are left, are those of all
abbrev pub invariant-loop-rest : goal.invariant-loop-rest
invariant-loop-rest l = l.digits.items ++ concat (words_of l.rest) ≡ concat (words_of l.words.0.now)

abbrev pub decreases-loop-rest : goal.decreases-loop-rest
decreases-loop-rest l = length l.rest
