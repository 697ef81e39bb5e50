use Rattle.std.proofs.Common.{◌≡◌, ◌∙◌, ap}
use Rattle.sk_text.specs.Lines.{lines_of}
use Rattle.sk_replay.specs.Logged.{calls_in, numbers_with}
use Rattle.sk_replay.specs.Replaying.{unclear_in}
use Rattle.sk_ask.proofs.Logs.{one_count_more, one_log_more}
use Rattle.sk_ask.proofs.allow.counts_of.Goals as goal

pub loop-log-preserved : goal.loop-log-preserved
loop-log-preserved c =
    let by = c.args.architecture in
    let log = c.deref.ensures.value in
    record {
      numbers = one_log_more _ by c.args.logs.now c.loop-log.log-index c.log-item.result _ _ c.loop-log-test.true c.log-item.is c.loop-log.invariant.numbers
          (c.in_ok-it.ensures.numbers ∙ ap (λ l. numbers_with by c.loop-log.numbers.keys (lines_of l)) log);
      counts = one_count_more _ by c.args.logs.now c.loop-log.log-index c.log-item.result _ _ c.in_ok-it.it c.loop-log-test.true c.log-item.is c.loop-log.invariant.counts c.in_ok-push.ensures.items
          (c.in_ok-it.ensures.calls ∙ ap (λ l. calls_in by (lines_of l)) log) (c.in_ok-it.ensures.unclear ∙ ap (λ l. unclear_in by (lines_of l)) log);
    }
