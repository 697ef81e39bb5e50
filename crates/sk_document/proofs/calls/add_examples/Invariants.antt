use Rattle.std.proofs.Common.{◌≡◌, ◌++◌, take, flat_map}
use Rattle.sk_document.specs.CallsDocument.{shown}
use Rattle.sk_document.proofs.calls.add_examples.Given as goal

abbrev pub invariant-loop-it : goal.invariant-loop-it
invariant-loop-it l = l.to ≡ l.initial.to ++ flat_map (shown l.names) (take l.it-index l.examples)
