use Rattle.std.proofs.Common.{◌∙◌, ap, sym}
use Rattle.std.specs.Option.{option_map}
use Rattle.sk_run.proofs.Happening.{next_has_the_turn, next_runs}
use Rattle.sk_run.proofs.machine.Machine.runner.Goals as goal

pub returns-in-Some-clause-runner : goal.returns-in-Some-clause-runner
returns-in-Some-clause-runner g c =
    sym (next_has_the_turn c.args.self.now.kernel.world c.args.self.now.last c.in-Some.runner.pid (sym c.next_runner.ensures.pid ∙ ap (option_map (λ runner. runner.pid)) c.in-Some.is))

pub returns-in-Some-clause-runs : goal.returns-in-Some-clause-runs
returns-in-Some-clause-runs g c =
    next_runs c.args.self.now.kernel.world c.args.self.now.last c.in-Some.runner.pid (sym c.next_runner.ensures.pid ∙ ap (option_map (λ runner. runner.pid)) c.in-Some.is)
