use Rattle.sk_machine.specs.Sessions.{links_of_leader}
use Rattle.sk_machine.proofs.Walking.{nobody_relinked}
use Rattle.sk_machine.proofs.grouping.lead.Goals as goal

pub returns-in_default : goal.returns-in_default
returns-in_default g c = nobody_relinked (g.S.ProcStore.contents c.args.store.now) c.args.pid (links_of_leader c.args.pid) c.in_default.ensures.absent
