use Rattle.std.proofs.Common.{◌≤◌, sym, subst}
use Rattle.sk_world.specs.declared.process.TheConstants.{LAST_PID}
use Rattle.sk_world.proofs.Ancestors.{new_parent_within}
use Rattle.sk_world.proofs.Partly.{begins, goes_on, is_done, none_known, one_known, no_more_known, known_is}
use Rattle.sk_world.proofs.ending.hand_children_on.Goals as goal

pub hand_on-requires-clause-parent : goal.hand_on-requires-clause-parent
hand_on-requires-clause-parent g c = subst (λ n. n ≤ LAST_PID) (sym c.requires.parent) (new_parent_within (g.S.ProcStore.contents c.args.store.now) c.args.pid c.requires.rules)

pub loop-child-init : goal.loop-child-init
loop-child-init g c = record { partly = begins (g.S.ProcStore.contents c.args.store.now) c.args.pid c.args.parent c.args.removes c.requires.rules; known = none_known (g.S.ProcStore.contents c.args.store.now) c.args.pid c.requires.rules }

pub loop-child-preserved-then-hand_on : goal.loop-child-preserved-then-hand_on
loop-child-preserved-then-hand_on g c = record {
  partly = goes_on (g.S.ProcStore.contents c.args.store.now) (g.S.ProcStore.contents c.loop-child.store) (g.S.ProcStore.contents c.hand_on.new.store) c.args.pid c.args.parent c.args.removes c.loop-child.after c.in-Some.child c.loop-child.invariant.partly c.in-Some.ensures.next c.hand_on.ensures.world;
  known = one_known (g.S.ProcStore.contents c.args.store.now) (g.S.ProcStore.contents c.loop-child.store) c.args.pid c.args.parent c.args.removes c.loop-child.has_zombie _ c.loop-child.after c.in-Some.child c.loop-child.invariant.partly c.in-Some.ensures.next c.hand_on.ensures.zombie c.if-hand_on.true;
}

pub loop-child-preserved : goal.loop-child-preserved
loop-child-preserved g c = record {
  partly = goes_on (g.S.ProcStore.contents c.args.store.now) (g.S.ProcStore.contents c.loop-child.store) (g.S.ProcStore.contents c.hand_on.new.store) c.args.pid c.args.parent c.args.removes c.loop-child.after c.in-Some.child c.loop-child.invariant.partly c.in-Some.ensures.next c.hand_on.ensures.world;
  known = no_more_known (g.S.ProcStore.contents c.args.store.now) (g.S.ProcStore.contents c.loop-child.store) c.args.pid c.args.parent c.args.removes c.loop-child.has_zombie _ c.loop-child.after c.in-Some.child c.loop-child.invariant.partly c.in-Some.ensures.next c.hand_on.ensures.zombie c.if-hand_on.false c.loop-child.invariant.known;
}

pub returns : goal.returns
returns g c = record {
  zombies = known_is (g.S.ProcStore.contents c.args.store.now) (g.S.ProcStore.contents c.loop-child.store) c.args.pid c.args.parent c.args.removes c.loop-child.has_zombie c.loop-child.after c.loop-child.invariant.partly c.in_default.ensures.next c.loop-child.invariant.known;
  world = is_done (g.S.ProcStore.contents c.args.store.now) (g.S.ProcStore.contents c.loop-child.store) c.args.pid c.args.parent c.args.removes c.loop-child.after c.requires.parent c.requires.removes c.loop-child.invariant.partly c.in_default.ensures.next;
}
