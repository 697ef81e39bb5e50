use Rattle.std.proofs.Common.{◌+◌, ◌*◌, length}
use Rattle.sk_profile.proofs.build.+code.Given as goal

abbrev pub decreases-side_of : goal.decreases-side_of
decreases-side_of l = 2 * length l.rows.now + 1

abbrev pub decreases-tree_of : goal.decreases-tree_of
decreases-tree_of l = 2 * length l.rows.now
