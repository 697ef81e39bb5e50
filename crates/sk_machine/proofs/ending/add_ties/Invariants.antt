use Rattle.std.proofs.Common.{◌-◌}
use Rattle.std.specs.Option.{is_some}
use Rattle.sk_world.specs.World.{at}
use Rattle.sk_machine.proofs.Ties.{AreTied, HasTies}
use Rattle.sk_machine.proofs.ending.add_ties.Given as goal

abbrev pub invariant-loop-pid : goal.invariant-loop-pid
invariant-loop-pid g l = record {
  tied : AreTied (g.S.ProcStore.contents l.store) l.groups;
  whole : HasTies (g.S.ProcStore.contents l.store) (λ q. is_some (at (g.S.ProcStore.contents l.store) q)) l.after l.groups;
}

abbrev pub decreases-loop-pid : goal.decreases-loop-pid
decreases-loop-pid g l = 32767 - l.after
