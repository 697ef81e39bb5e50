use Rattle.std.proofs.Common.{◌≡◌, ◌++◌, take}
use Rattle.sk_kernel.proofs.Common.{answers_of, world_after}
use Rattle.sk_kernel.proofs.kernel.Kernel.run.Given as goal

abbrev pub invariant-loop-done : goal.invariant-loop-done
invariant-loop-done g l = record {
  told : l.answers.items ≡ l.fn.answers.items ++ answers_of l.fn.self.declared l.fn.self.world (take l.done l.events);
  world : l.self.world ≡ world_after l.fn.self.declared l.fn.self.world (take l.done l.events);
  declared : l.self.declared ≡ l.fn.self.declared;
}
