use Rattle.std.proofs.Common.{◌∙◌, ap, sym, cond}
use Rattle.std.proofs.lemmas.Bool.{eq-eqb}
use Rattle.sk_world.specs.declared.process.TheConstants.{INIT}
use Rattle.sk_world.specs.Ending.{ended}
use Rattle.sk_machine.specs.Orphans.{left_hung_up}
use Rattle.sk_machine.proofs.Lost.{nobody_hung_up}
use Rattle.sk_machine.proofs.ending.end.Goals as goal
use Rattle.sk_machine.proofs.ending.end.Goals.{else-pid-ne-INIT-via-then-pid-ne-INIT+else-may_untie, else-pid-ne-INIT-via-else-pid-ne-INIT}

pub returns-else-pid-ne-INIT-clause-world : goal.returns-else-pid-ne-INIT-clause-world
returns-else-pid-ne-INIT-clause-world g c =
    let w = g.S.ProcStore.contents c.args.store.now in
    let after = ended w c.args.pid c.args.status in
    c.end.ensures.world ∙ elim c.else-pid-ne-INIT.branch [
      | else-pid-ne-INIT-via-then-pid-ne-INIT+else-may_untie b ↦
          nobody_hung_up w c.args.pid c.args.status c.requires.rules b.if-pid-ne-INIT.true (b.may_untie.ensures b.if-may_untie.false)
      | else-pid-ne-INIT-via-else-pid-ne-INIT b ↦ sym (ap (λ b. cond b after (left_hung_up w after)) (eq-eqb c.args.pid INIT b.if-pid-ne-INIT.false))
    ]
