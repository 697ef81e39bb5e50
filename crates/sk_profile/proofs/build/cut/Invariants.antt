use Rattle.std.proofs.Common.{◌<◌, length}
use Rattle.sk_profile.proofs.build.cut.Given as goal

abbrev pub invariant-loop-at : goal.invariant-loop-at
invariant-loop-at l = l.best < length l.rows
