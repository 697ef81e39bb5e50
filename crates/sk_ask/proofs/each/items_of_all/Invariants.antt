use Rattle.std.proofs.Common.{◌++◌, List, length}
use Rattle.sk_ask.specs.Calls.{OfAll}
use Rattle.sk_ask.proofs.each.items_of_all.Given as goal

-- what is told of the calls that are done goes with what is told of those that are left
abbrev pub invariant-loop-nr : goal.invariant-loop-nr
invariant-loop-nr g l = (more : List _) → OfAll (g.T.OfCall.tells l.it) l.rest more → OfAll (g.T.OfCall.tells l.it) l.calls (l.items.items ++ more)

abbrev pub decreases-loop-nr : goal.decreases-loop-nr
decreases-loop-nr g l = length l.rest
