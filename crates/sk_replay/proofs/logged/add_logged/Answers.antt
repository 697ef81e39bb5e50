use Rattle.std.proofs.Common.{◌<◌, ◌^◌, arith, length}
use Rattle.sk_replay.proofs.Counting.{sum_fits}
use Rattle.sk_replay.proofs.Logging.{few_calls, few_unclear, one_more_line}
use Rattle.sk_replay.proofs.logged.add_logged.Goals as goal

pub overflow_add-calls : goal.overflow_add-calls
overflow_add-calls c =
    let fits : length c.args.log.now < 2 ^ 64 = omega arith in
    let sum = sum_fits _ _ _ (few_calls _ _ _ _ _ _ _ _ _ fits c.in-Some.ensures.steps c.loop-line.invariant) c.call_in-calls.ensures.call in
    omega (arith, sum)

pub overflow_add-unclear : goal.overflow_add-unclear
overflow_add-unclear c =
    let fits : length c.args.log.now < 2 ^ 64 = omega arith in
    let sum = sum_fits _ _ _ (few_unclear _ _ _ _ _ _ _ _ _ fits c.in-Some.ensures.steps c.loop-line.invariant) c.unclear_in-unclear.ensures.unclear in
    omega (arith, sum)

pub loop-line-preserved : goal.loop-line-preserved
loop-line-preserved c =
    let fits : length c.args.log.now < 2 ^ 64 = omega arith in
    one_more_line _ _ _ _ _ _ _ _ _ fits c.in-Some.ensures.steps c.loop-line.invariant _ _ _ _
    c.of-said.ensures.line c.in_ok-add_number.ensures.added c.call_in-calls.ensures.call c.unclear_in-unclear.ensures.unclear
