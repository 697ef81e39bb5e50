use Rattle.std.proofs.Common.{◌<◌, length}
use Rattle.sk_policy.proofs.rules.cut.Given as goal

abbrev pub invariant-loop-at : goal.invariant-loop-at
invariant-loop-at l = (0 < l.best) × (l.best < length l.rules)
