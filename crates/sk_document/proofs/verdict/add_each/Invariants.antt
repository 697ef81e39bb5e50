use Rattle.std.proofs.Common.{◌≡◌, ◌++◌, take, flat_map}
use Rattle.sk_document.specs.Verdicts.{verdict}
use Rattle.sk_document.proofs.verdict.add_each.Given as goal

abbrev pub invariant-loop-value : goal.invariant-loop-value
invariant-loop-value l = l.to ≡ l.initial.to ++ flat_map verdict (take l.value-index l.values)
