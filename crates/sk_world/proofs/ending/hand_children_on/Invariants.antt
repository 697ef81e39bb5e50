use Rattle.std.proofs.Common.{◌-◌}
use Rattle.sk_world.proofs.Partly.{IsPartly, IsKnown}
use Rattle.sk_world.proofs.ending.hand_children_on.Given as goal

abbrev pub invariant-loop-child : goal.invariant-loop-child
invariant-loop-child g l = record {
  partly : IsPartly (g.S.ProcStore.contents l.fn.store) (g.S.ProcStore.contents l.store) l.fn.pid l.fn.parent l.fn.removes l.after;
  known : IsKnown (g.S.ProcStore.contents l.fn.store) l.fn.pid l.has_zombie l.after;
}

abbrev pub decreases-loop-child : goal.decreases-loop-child
decreases-loop-child g l = 32767 - l.after
