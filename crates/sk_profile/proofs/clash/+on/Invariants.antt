use Rattle.std.proofs.Common.{length}
use Rattle.sk_profile.proofs.clash.+on.Given as goal

abbrev pub decreases-on : goal.decreases-on
decreases-on l = length l.conditions.now
