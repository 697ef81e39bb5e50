use Rattle.std.proofs.Common.{◌∙◌, ap, refl, sym}
use Rattle.sk_run.specs.Report.{report_of}
use Rattle.sk_run.specs.views.State.{setting_of, now_of}
use Rattle.sk_run.proofs.Underway.{start, begins_text, ends_text, goes_text, fewer}
use Rattle.sk_run.proofs.reporting.report.Goals as goal

pub loop-turn-init : goal.loop-turn-init
loop-turn-init g c = record {
  underway = start (setting_of c.args.machine) (now_of c.args.machine) (g.W.Sink.contents c.args.writer.now) c.requires.opened;
  same = refl;
  done = sym (ap (λ s. s.used) c.requires.opened);
  count = refl;
}

pub returns-in_default-clause-report : goal.returns-in_default-clause-report
returns-in_default-clause-report g c =
    begins_text (report_of (setting_of c.args.machine)) (setting_of c.loop-turn.machine) (now_of c.loop-turn.machine) _ _ _ c.in-Ok.turn c.as_bytes.result.now
    c.loop-turn.invariant.underway c.in-Ok.ensures.turn (c.as_bytes.ensures.value ∙ c.deref.ensures.0 ∙ c.write_line.ensures.text) c.send.ensures.front

pub loop-turn-smaller : goal.loop-turn-smaller
loop-turn-smaller g c =
    (fewer (setting_of c.loop-turn.machine) (setting_of c.turn.new.self) (now_of c.loop-turn.machine) (now_of c.turn.new.self) c.in-Ok.turn c.in-Turn.turn c.in-Turn.event c.in-Turn.answer
    c.in-Ok.ensures.turn c.in-Turn.is c.in-Ok.ensures.after c.turn.ensures.setting).fewer

pub loop-turn-preserved : goal.loop-turn-preserved
loop-turn-preserved g c = record {
  underway =
      goes_text (report_of (setting_of c.args.machine)) (setting_of c.loop-turn.machine) (setting_of c.turn.new.self) (now_of c.loop-turn.machine) (now_of c.turn.new.self) _ _ _
      c.in-Ok.turn c.in-Turn.turn c.in-Turn.event c.in-Turn.answer c.as_bytes.result.now
      c.loop-turn.invariant.underway c.in-Ok.ensures.turn c.in-Turn.is c.in-Ok.ensures.after c.turn.ensures.setting
      (c.as_bytes.ensures.value ∙ c.deref.ensures.0 ∙ c.write_line.ensures.text) c.in-Ok-send.ensures.whole;
  same = c.turn.ensures.setting ∙ c.loop-turn.invariant.same;
  done =
      (fewer (setting_of c.loop-turn.machine) (setting_of c.turn.new.self) (now_of c.loop-turn.machine) (now_of c.turn.new.self) c.in-Ok.turn c.in-Turn.turn c.in-Turn.event c.in-Turn.answer
      c.in-Ok.ensures.turn c.in-Turn.is c.in-Ok.ensures.after c.turn.ensures.setting).number;
  count = c.in-Ok-send.ensures.fault ∙ c.loop-turn.invariant.count;
}

pub returns-in-End-clause-report : goal.returns-in-End-clause-report
returns-in-End-clause-report g c =
    ends_text (report_of (setting_of c.args.machine)) (setting_of c.loop-turn.machine) (now_of c.loop-turn.machine) _ _ _ c.in-Ok.turn c.in-End.end c.as_bytes.result.now
    c.loop-turn.invariant.underway c.in-Ok.ensures.turn c.in-End.is (c.as_bytes.ensures.value ∙ c.deref.ensures.0 ∙ c.write_line.ensures.text) c.in-Ok-send.ensures.whole
