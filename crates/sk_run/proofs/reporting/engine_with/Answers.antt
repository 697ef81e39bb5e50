use Rattle.std.proofs.Common.{sym, subst}
use Rattle.std.proofs.lemmas.Result.{err_from_is_err_and}
use Rattle.sk_scenario.specs.Scenario.{IsScenarioText}
use Rattle.sk_run.specs.views.State.{setting_of}
use Rattle.sk_run.proofs.Delivering.{delivers, refuses}
use Rattle.sk_run.proofs.reporting.engine_with.Goals as goal

pub returns-in_err-scenario-clause-told : goal.returns-in_err-scenario-clause-told
returns-in_err-scenario-clause-told g c =
    let p = err_from_is_err_and c.from_residual-in_err-scenario.result c.from_residual-in_err-scenario.ensures.1 in
    rw (p.1, p.2)
    (refuses (g.R.Source.remaining c.args.reader.now) c.in_ok-input.input.items c.in_err-scenario.field-0.0 (g.W.Sink.contents c.args.writer.now)
    c.in_ok-input.ensures.first (rw c.as_slice.ensures.value at c.in_err-scenario.ensures.first))

pub returns-clause-told : goal.returns-clause-told
returns-clause-told g c =
    delivers (g.R.Source.remaining c.args.reader.now) c.in_ok-input.input.items (setting_of c.in_ok-machine.machine) c.report.result _ _
    c.in_ok-input.ensures.first
    (subst (λ setting. IsScenarioText c.in_ok-input.input.items setting) (sym c.in_ok-machine.ensures.setting) (rw c.as_slice.ensures.value at c.in_ok-scenario.ensures.stands))
    c.report.ensures.report
