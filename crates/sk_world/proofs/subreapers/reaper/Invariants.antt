use Rattle.std.proofs.Common.{◌≡◌, ◌-◌}
use Rattle.sk_world.specs.Common.{PROCESSES, new_parent}
use Rattle.sk_world.proofs.Ancestors.{found_above}
use Rattle.sk_world.proofs.subreapers.reaper.Given as goal

abbrev pub invariant-loop-asked : goal.invariant-loop-asked
invariant-loop-asked g l = new_parent (g.S.ProcStore.contents l.store) l.pid ≡ found_above (g.S.ProcStore.contents l.store) l.pid (PROCESSES - l._asked) l.ancestor
