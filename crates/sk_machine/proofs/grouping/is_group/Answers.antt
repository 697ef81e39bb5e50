use Rattle.std.proofs.Common.{◌∙◌}
use Rattle.sk_machine.proofs.Walking.{group_found}
use Rattle.sk_machine.proofs.grouping.is_group.Goals as goal

pub returns : goal.returns
returns g c = c.is_some.ensures ∙ group_found (g.S.ProcStore.contents c.args.store.now) c.args.group c.next_member.result c.requires c.next_member.ensures.next
