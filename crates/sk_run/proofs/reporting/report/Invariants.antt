use Rattle.std.proofs.Common.{◌≡◌, ◌-◌}
use Rattle.sk_run.specs.Report.{report_of}
use Rattle.sk_run.specs.views.State.{setting_of, now_of}
use Rattle.sk_run.proofs.Underway.{Underway}
use Rattle.sk_run.proofs.reporting.report.Given as goal

abbrev pub invariant-loop-turn : goal.invariant-loop-turn
invariant-loop-turn g l = record {
  underway : Underway (report_of (setting_of l.fn.machine)) (setting_of l.machine) (now_of l.machine) (g.W.Sink.contents l.fn.writer) (g.W.Sink.contents l.writer);
  same : setting_of l.machine ≡ setting_of l.fn.machine;
  done : l.done ≡ l.machine.used;
  count : g.W.Sink.failed l.writer ≡ g.W.Sink.failed l.fn.writer;
}

abbrev pub decreases-loop-turn : goal.decreases-loop-turn
decreases-loop-turn g l = l.machine.turns - l.machine.used
