use Rattle.std.proofs.Common.{◌≡◌, ◌++◌, length}
use Rattle.sk_forms.specs.Comments.{left_from, uncommented}
use Rattle.sk_forms.proofs.comments.uncommented.Given as goal

-- what is left so far, and of the bytes behind, is what is left of the text
abbrev pub invariant-loop-byte : goal.invariant-loop-byte
invariant-loop-byte l = l.code.items ++ left_from l.place l.rest ≡ uncommented l.text

abbrev pub decreases-loop-byte : goal.decreases-loop-byte
decreases-loop-byte l = length l.rest
