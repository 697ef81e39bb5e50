use Rattle.sk_world.specs.Rules.{IsWorld}
use Rattle.sk_process_tests.proofs.world.forks_of.Given as goal

abbrev pub invariant-loop-parent : goal.invariant-loop-parent
invariant-loop-parent g l = IsWorld (g.S.ProcStore.contents l.store)
