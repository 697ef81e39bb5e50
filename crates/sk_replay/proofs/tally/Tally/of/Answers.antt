use Rattle.std.proofs.Common.{◌<◌, ◌^◌, arith, length}
use Rattle.sk_replay.proofs.Counting.{room, few_events, few_unclear, next_fits, sum_fits, turned}
use Rattle.sk_replay.proofs.tally.Tally.of.Goals as goal

pub count-requires : goal.count-requires
count-requires c =
    let fits : length c.args.log.now < 2 ^ 64 = omega arith in
    record { room = room _ _ _ _ _ _ _ _ _ _ fits c.in-Some.ensures.steps c.loop-line.invariant }

pub overflow_add-events : goal.overflow_add-events
overflow_add-events c =
    let fits : length c.args.log.now < 2 ^ 64 = omega arith in
    let sum = sum_fits _ _ _ (few_events _ _ _ _ _ _ _ _ _ _ fits c.in-Some.ensures.steps c.loop-line.invariant) c.event_in-events.ensures.event in
    omega (arith, sum)

pub overflow_add-unclear : goal.overflow_add-unclear
overflow_add-unclear c =
    let fits : length c.args.log.now < 2 ^ 64 = omega arith in
    let sum = sum_fits _ _ _ (few_unclear _ _ _ _ _ _ _ _ _ _ fits c.in-Some.ensures.steps c.loop-line.invariant) c.unclear_in-unclear.ensures.unclear in
    omega (arith, sum)

pub overflow_add-number : goal.overflow_add-number
overflow_add-number c =
    let fits : length c.args.log.now < 2 ^ 64 = omega arith in
    let sum = next_fits _ _ _ _ _ _ _ _ _ _ fits c.in-Some.ensures.steps c.loop-line.invariant in
    omega (arith, sum)

pub loop-line-preserved : goal.loop-line-preserved
loop-line-preserved c =
    let fits : length c.args.log.now < 2 ^ 64 = omega arith in
    turned _ _ _ _ _ _ _ _ _ _ fits c.in-Some.ensures.steps c.loop-line.invariant _ _ _ _ _
    c.of-said.ensures.line c.in_ok-count.ensures.counted c.in_ok-note.ensures.noted c.event_in-events.ensures.event c.unclear_in-unclear.ensures.unclear
