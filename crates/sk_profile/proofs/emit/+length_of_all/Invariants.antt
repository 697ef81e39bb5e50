use Rattle.std.proofs.Common.{length}
use Rattle.sk_profile.proofs.emit.+length_of_all.Given as goal

abbrev pub decreases-length_of_all : goal.decreases-length_of_all
decreases-length_of_all l = length l.conditions.now
