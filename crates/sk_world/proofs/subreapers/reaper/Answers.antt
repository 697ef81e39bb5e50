use Rattle.std.proofs.Common.{◌∙◌, ap, sym}
use Rattle.sk_world.specs.declared.process.TheConstants.{PROCESSES}
use Rattle.sk_world.proofs.Ancestors.{found_above, from_parent, taken_by, passed_over, ends_at_nobody, ends_after_all}
use Rattle.sk_world.proofs.subreapers.reaper.Goals as goal

pub loop-asked-init : goal.loop-asked-init
loop-asked-init g c =
    let w = g.S.ProcStore.contents c.args.store.now in
    from_parent w c.args.pid ∙ ap (found_above w c.args.pid PROCESSES) (sym c.parent_of-ancestor.ensures)

pub returns-in_default : goal.returns-in_default
returns-in_default g c = record {
  reaper = ends_at_nobody (g.S.ProcStore.contents c.args.store.now) c.args.pid c.loop-asked._asked c.loop-asked.ancestor c.loop-asked-test.true c.in_default.ensures.absent c.loop-asked.invariant;
}

pub returns-then-takes_children : goal.returns-then-takes_children
returns-then-takes_children g c = record {
  reaper = taken_by (g.S.ProcStore.contents c.args.store.now) c.args.pid c.loop-asked._asked c.loop-asked.ancestor c.in-Some.process.now c.loop-asked-test.true c.in-Some.ensures.there c.loop-asked.invariant
      (sym c.takes_children.ensures ∙ c.if-takes_children.true);
}

pub loop-asked-preserved : goal.loop-asked-preserved
loop-asked-preserved g c =
    passed_over (g.S.ProcStore.contents c.args.store.now) c.args.pid c.loop-asked._asked c.loop-asked.ancestor c.in-Some.process.now c.loop-asked-test.true c.in-Some.ensures.there c.loop-asked.invariant
    (sym c.takes_children.ensures ∙ c.if-takes_children.false)

pub returns : goal.returns
returns g c = record {
  reaper = ends_after_all (g.S.ProcStore.contents c.args.store.now) c.args.pid c.loop-asked._asked c.loop-asked.ancestor c.loop-asked-test.false c.loop-asked.invariant;
}
