use Rattle.sk_world.specs.Rules.{IsWorld}
use Rattle.sk_bench.proofs.stores.filled.Given as goal

abbrev pub invariant-loop-forked : goal.invariant-loop-forked
invariant-loop-forked g l = IsWorld (g.S.ProcStore.contents l.store)
