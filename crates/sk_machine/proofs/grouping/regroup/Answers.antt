use Rattle.std.proofs.Common.{◌∙◌, sym}
use Rattle.std.proofs.lemmas.Result.{IfOk-at_ok}
use Rattle.sk_machine.proofs.KeptLinks.{within_regrouped}
use Rattle.sk_machine.proofs.grouping.regroup.Goals as goal

pub put_into_group-requires-clause-within : goal.put_into_group-requires-clause-within
put_into_group-requires-clause-within g c =
    IfOk-at_ok _ (sym c.may_regroup.ensures ∙ c.in_ok-may_regroup.was) (within_regrouped (g.S.ProcStore.contents c.args.store.now) c.args.caller c.args.target c.args.group c.requires.rules c.requires.there)
