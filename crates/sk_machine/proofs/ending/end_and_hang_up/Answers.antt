use Rattle.std.proofs.Common.{◌∙◌, ◌&&◌, ap, sym, filter}
use Rattle.std.proofs.lemmas.Bool.{and_parts}
use Rattle.sk_world.specs.NumberSets.{contains}
use Rattle.sk_machine.specs.Orphans.{is_orphaned, has_stopped_member, groups, each_hung_up}
use Rattle.sk_machine.proofs.Lost.{kept_are_left, stopped_is_group, left_hung_up}
use Rattle.sk_machine.proofs.ending.end_and_hang_up.Goals as goal

pub hang_up_each-requires-clause-known : goal.hang_up_each-requires-clause-known
hang_up_each-requires-clause-known g c group member =
    let after = g.S.ProcStore.contents c.end.new.store in
    let kept = and_parts (contains c.add_groups_tied_by.new.groups group) (is_orphaned after group && has_stopped_member after group) (sym (c.keep_orphaned.ensures group) ∙ member) in
    stopped_is_group after group (and_parts (is_orphaned after group) (has_stopped_member after group) kept.1).1

pub returns-clause-world : goal.returns-clause-world
returns-clause-world g c =
    let w = g.S.ProcStore.contents c.args.store.now in
    let tied = c.add_groups_tied_by.new.groups in
    let kept = c.keep_orphaned.new.groups in
    c.hang_up_each.ensures.world
    ∙ ap (λ v. each_hung_up v (filter (contains kept) (groups v))) c.end.ensures.world
    ∙ left_hung_up w c.args.pid c.args.status kept c.requires.other
    (kept_are_left w c.args.pid c.args.status tied kept c.requires.rules c.requires.other c.add_groups_tied_by.ensures.tied c.add_groups_tied_by.ensures.whole
    (λ group. c.keep_orphaned.ensures group ∙ ap (λ v. contains tied group && (is_orphaned v group && has_stopped_member v group)) c.end.ensures.world))
