use Rattle.std.proofs.Common.{◌-◌, ◌^◌}
use Rattle.sk_profile.specs.Views.{part_of}
use Rattle.sk_profile.proofs.Starts.{SoFar}
use Rattle.sk_profile.proofs.rows.rows_of.Given as goal

abbrev pub invariant-loop-start : goal.invariant-loop-start
invariant-loop-start l = SoFar l.default l.bad (part_of l.part) l.rows l.from

abbrev pub decreases-loop-start : goal.decreases-loop-start
decreases-loop-start l = 2 ^ 32 - l.from
