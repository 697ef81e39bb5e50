use Rattle.std.proofs.Common.{◌≡◌, ◌++◌, take, flat_map, map}
use Rattle.sk_document.specs.Deciding.{decision_of, pair_of}
use Rattle.sk_document.proofs.deciding.add_decisions.Given as goal

abbrev pub invariant-loop-it : goal.invariant-loop-it
invariant-loop-it l = l.to ≡ l.initial.to ++ flat_map decision_of (map pair_of (take l.it-index l.decisions))
