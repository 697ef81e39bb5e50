use Rattle.std.proofs.Common.{◌∙◌}
use Rattle.sk_kernel.proofs.Reaching.{reached_found}
use Rattle.sk_kernel.proofs.killing.is_any_permitted.Goals as goal

pub returns : goal.returns
returns g c =
    c.is_some.ensures ∙ reached_found (g.S.ProcStore.contents c.args.store.now) c.args.caller c.args.creds c.args.who c.args.signal c.next_permitted.result c.requires.rules c.next_permitted.ensures.next
