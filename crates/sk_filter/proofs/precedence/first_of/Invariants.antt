use Rattle.std.proofs.Common.{◌≡◌, None, drop}
use Rattle.sk_filter.specs.Preceding.{preceding_of}
use Rattle.sk_filter.proofs.precedence.first_of.Given as goal

abbrev pub invariant-loop-value : goal.invariant-loop-value
invariant-loop-value l = preceding_of l.first (drop l.value-index l.values) ≡ preceding_of None l.values
