use Rattle.std.proofs.Common.{◌∙◌}
use Rattle.sk_kernel.proofs.Reaching.{meant_found}
use Rattle.sk_kernel.proofs.killing.is_any_meant.Goals as goal

pub returns : goal.returns
returns g c = c.is_some.ensures ∙ meant_found (g.S.ProcStore.contents c.args.store.now) c.args.caller c.args.who c.next_target.result c.requires.rules c.next_target.ensures.next
