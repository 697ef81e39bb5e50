use Rattle.sk_world.specs.NumberSets.{contains}
use Rattle.sk_machine.proofs.Hanging.{hanging_begins, hung_further}
use Rattle.sk_machine.proofs.ending.hang_up_each.Goals as goal

pub loop-next-init : goal.loop-next-init
loop-next-init g c = record {
  hung = hanging_begins (contains c.args.groups.now) (g.S.ProcStore.contents c.args.store.now) c.first-next.result c.requires.known c.first-next.ensures.least c.requires.rules;
  within = c.first-next.ensures.within;
}

pub loop-next-preserved : goal.loop-next-preserved
loop-next-preserved g c = record {
  hung = hung_further (contains c.args.groups.now) (g.S.ProcStore.contents c.args.store.now) (g.S.ProcStore.contents c.loop-next.store) (g.S.ProcStore.contents c.hang_up.new.store) c.in-Some.group c.next-next.result c.requires.known (rw c.in-Some.is at c.loop-next.invariant.hung)
      c.hang_up.ensures.world c.hang_up.ensures.rules c.next-next.ensures.next;
  within = c.next-next.ensures.within;
}
