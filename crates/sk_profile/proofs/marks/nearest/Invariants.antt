use Rattle.std.proofs.Common.{◌≡◌, drop}
use Rattle.sk_profile.specs.Rows.{next_of}
use Rattle.sk_profile.proofs.marks.nearest.Given as goal

abbrev pub invariant-loop-mark : goal.invariant-loop-mark
invariant-loop-mark l = next_of l.from l.best (drop l.mark-index l.marks) ≡ next_of l.from l.fn.best l.marks
