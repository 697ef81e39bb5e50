use Rattle.std.proofs.Common.{length}
use Rattle.libskern.proofs.profile.+with_held.Given as goal

abbrev pub decreases-with_held : goal.decreases-with_held
decreases-with_held l = length l.all.now
