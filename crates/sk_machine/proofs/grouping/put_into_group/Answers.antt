use Rattle.sk_machine.specs.Sessions.{links_in_group}
use Rattle.sk_machine.proofs.Walking.{nobody_relinked}
use Rattle.sk_machine.proofs.grouping.put_into_group.Goals as goal

pub returns-in_default : goal.returns-in_default
returns-in_default g c = nobody_relinked (g.S.ProcStore.contents c.args.store.now) c.args.pid (links_in_group c.args.group) c.in_default.ensures.absent
