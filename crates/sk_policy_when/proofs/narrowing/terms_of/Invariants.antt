use Rattle.std.proofs.Common.{◌≡◌, map, take}
use Rattle.sk_policy_when.specs.Narrowing.{term_of}
use Rattle.sk_policy_when.proofs.narrowing.terms_of.Given as goal

abbrev pub invariant-loop-number : goal.invariant-loop-number
invariant-loop-number l = l.terms.items ≡ map (term_of l.argument l.mask) (take l.number-index l.numbers)
