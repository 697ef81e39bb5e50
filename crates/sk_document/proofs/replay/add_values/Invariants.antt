use Rattle.std.proofs.Common.{◌≡◌, ◌++◌, take, flat_map}
use Rattle.sk_document.specs.ReplayDocument.{value_said}
use Rattle.sk_document.proofs.replay.add_values.Given as goal

abbrev pub invariant-loop-value : goal.invariant-loop-value
invariant-loop-value l = l.to ≡ l.initial.to ++ flat_map value_said (take l.value-index l.args)
