use Rattle.std.proofs.Common.{◌-◌, ℕ, IsTrue}
use Rattle.sk_world.specs.NumberSets.{contains}
use Rattle.sk_world.specs.World.{at, is_child_of}
use Rattle.sk_machine.proofs.Ties.{AreTied, HasTies}
use Rattle.sk_machine.proofs.ending.add_ties_of_children.Given as goal

abbrev pub invariant-loop-child : goal.invariant-loop-child
invariant-loop-child g l = record {
  tied : AreTied (g.S.ProcStore.contents l.store) l.groups;
  kept : (group : ℕ) → IsTrue (contains l.fn.groups group) → IsTrue (contains l.groups group);
  whole : HasTies (g.S.ProcStore.contents l.store) (λ q. is_child_of l.parent (at (g.S.ProcStore.contents l.store) q)) l.after l.groups;
}

abbrev pub decreases-loop-child : goal.decreases-loop-child
decreases-loop-child g l = 32767 - l.after
