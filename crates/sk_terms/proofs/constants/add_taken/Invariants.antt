use Rattle.std.proofs.Common.{◌≡◌, ◌++◌, drop, map}
use Rattle.sk_terms.specs.Constants.{named, taken}
use Rattle.sk_terms.proofs.constants.add_taken.Given as goal

abbrev pub invariant-loop-number : goal.invariant-loop-number
invariant-loop-number l =
    l.parts.items ++ map (named l.set) (taken (drop l.number-index l.number-items) l.rest)
    ≡ l.fn.parts.items ++ map (named l.set) (taken l.number-items l.fn.bits)
