use Rattle.std.proofs.Common.{◌∙◌, [], subst, take}
use Rattle.sk_kernel.proofs.Common.{Call}
use Rattle.sk_laws.specs.RunLaws.{RunIsLawful}
use Rattle.sk_laws.proofs.Runs.{runs_are_lawful}
use Rattle.sk_kernel.proofs.Runs.{more}
use Rattle.sk_kernel.proofs.kernel.Kernel.run.Goals as goal

pub loop-done-preserved : goal.loop-done-preserved
loop-done-preserved g c =
    let before = c.loop-done.invariant in
    let now = c.in-Ok.ensures in
    let both = more c.args.self.now.declared c.args.self.now.world c.args.events.now c.loop-done.done (Call 0 0 (record { nr = 0; args = [] })) c.loop-done.self c.args.answers.now.items c.loop-done.answers.items
    c.tell.new.answers.items c.tell.new.self.world c.loop-done-test.true before.told before.world before.declared now.answer now.world in
    record { told = both.0; world = both.1; declared = now.declared ∙ before.declared }

pub returns-in-Err-clause-lawful : goal.returns-in-Err-clause-lawful
returns-in-Err-clause-lawful g c =
    subst (λ s. RunIsLawful s.declared s.world (take c.loop-done.done c.args.events.now)) c.self.view_is
    (runs_are_lawful c.self.inside.declared c.self.inside.store (take c.loop-done.done c.args.events.now) c.self.invariant.0 c.self.invariant.1)

pub returns-clause-lawful : goal.returns-clause-lawful
returns-clause-lawful g c =
    subst (λ s. RunIsLawful s.declared s.world c.args.events.now) c.self.view_is
    (runs_are_lawful c.self.inside.declared c.self.inside.store c.args.events.now c.self.invariant.0 c.self.invariant.1)
