use Rattle.sk_world.specs.Rules.{IsWorld}
use Rattle.sk_bench.proofs.stores.forked.Given as goal

abbrev pub invariant-loop-round : goal.invariant-loop-round
invariant-loop-round g l = IsWorld (g.S.ProcStore.contents l.store)
