use Rattle.std.proofs.Common.{◌-◌, ◌≤◌, ℕ, IsTrue}
use Rattle.sk_world.specs.World.{at, is_child_of}
use Rattle.sk_machine.specs.views.Ties.{TiesNone}
use Rattle.sk_machine.proofs.ending.has_child_that_ties.Given as goal

abbrev pub invariant-loop-child : goal.invariant-loop-child
invariant-loop-child g l =
    (q : ℕ) → q ≤ l.after → IsTrue (is_child_of l.parent (at (g.S.ProcStore.contents l.store) q)) → TiesNone (g.S.ProcStore.contents l.store) q

abbrev pub decreases-loop-child : goal.decreases-loop-child
decreases-loop-child g l = 32767 - l.after
