use Rattle.std.proofs.Common.{◌≡◌, ◌∙◌, ◌++◌, ap}
use Rattle.sk_text.specs.Lines.{lines_of}
use Rattle.sk_replay.specs.Replaying.{calls_of, each_once}
use Rattle.sk_ask.proofs.Logs.{more_calls}
use Rattle.sk_ask.proofs.narrowing.logged_calls.Goals as goal

pub loop-log-preserved : goal.loop-log-preserved
loop-log-preserved c =
    let by = c.args.architecture in
    more_calls _ by c.args.logs.now c.loop-log.log-index c.log-item.result _ _ c.loop-log-test.true c.log-item.is c.loop-log.invariant
    (c.in_ok-extend_from_slice.ensures.items
    ∙ ap (λ calls. c.loop-log.calls.items ++ calls) (c.deref-in-loop-log.ensures.value ∙ c.in_ok-it.ensures.calls ∙ ap (λ l. each_once (calls_of by (lines_of l))) c.deref.ensures.value))
