use Rattle.sk_world.specs.Rules.{IsWorld}
use Rattle.sk_process_tests.proofs.syscalls.come_to.Given as goal

abbrev pub invariant-loop-pid : goal.invariant-loop-pid
invariant-loop-pid g l = IsWorld l.store
