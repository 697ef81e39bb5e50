use Rattle.std.proofs.Common.{◌≡◌, [], length}
use Rattle.sk_forms.specs.Words.{words_behind}
use Rattle.sk_forms.proofs.cutting.without_blanks.Given as goal

-- only blanks were passed
abbrev pub invariant-loop-byte : goal.invariant-loop-byte
invariant-loop-byte l = words_behind [] l.rest ≡ words_behind [] l.text

abbrev pub decreases-loop-byte : goal.decreases-loop-byte
decreases-loop-byte l = length l.rest
