use Rattle.std.proofs.Common.{◌≡◌, ◌+◌, ◌-◌, length, drop, Some, arith, subst, ap, ◌∙◌}
use Rattle.sk_filter.specs.Verdict.{values_of}
use Rattle.sk_show.specs.Runs.{EndsAt}
use Rattle.sk_show.proofs.Newer.{IsNotBefore, is_at, is_within, passed, all_passed, answers_at, nor_here, none_answers}
use Rattle.sk_show.proofs.example.answering.Goals as goal

pub returns-then-end-value-clause-source : goal.returns-then-end-value-clause-source
returns-then-end-value-clause-source c =
    let programs = c.args.chain.now in
    let call = c.args.call.now in
    let program = c.in-Some.program.now in
    let newer = length programs - c.loop-program.older in
    let rest = c.loop-program.invariant.rest in
    let next = c.in-Some.ensures.steps in
    let within = is_within programs newer program _ _ rest next in
    let older = c.loop-program.invariant.older in
    let here = answers_at programs call newer program _ _ _ _ rest next c.end_of-end.ensures.ends in
    let ends = subst (λ value. EndsAt program call value c.end_of-end.result.place) c.if-end-value.true c.end_of-end.ensures.ends in
    (newer, omega (arith, within, older), (here ∙ ap Some c.if-end-value.true, c.loop-program.invariant.none), (program, is_at programs newer program _ _ rest next, ends))

pub loop-program-preserved : goal.loop-program-preserved
loop-program-preserved c =
    let programs = c.args.chain.now in
    let call = c.args.call.now in
    let newer = length programs - c.loop-program.older in
    let rest = c.loop-program.invariant.rest in
    let next = c.in-Some.ensures.steps in
    let within = is_within programs newer _ _ _ rest next in
    let older = c.loop-program.invariant.older in
    let more : newer + 1 ≡ length programs - (c.loop-program.older - 1) = omega (arith, within, older) in
    let here = answers_at programs call newer _ _ _ _ _ rest next c.end_of-end.ensures.ends in
    record {
      rest = passed programs newer _ _ _ rest next ∙ ap (λ n. drop n programs) more;
      older = omega (arith, older);
      none = subst (IsNotBefore (values_of programs call) c.args.value) more (nor_here (values_of programs call) c.args.value _ newer here c.if-end-value.false c.loop-program.invariant.none);
    }

pub returns-clause-none : goal.returns-clause-none
returns-clause-none c =
    let programs = c.args.chain.now in
    let passed = length programs - c.loop-program.older in
    let end = all_passed programs passed _ c.loop-program.invariant.rest c.in-None.ensures.steps.0 in
    none_answers programs c.args.call.now c.args.value passed end c.loop-program.invariant.none
