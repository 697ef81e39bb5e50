use Rattle.std.proofs.Common.{◌∙◌, ap, arith, sym, is_some}
use Rattle.sk_kernel.proofs.Common.{is_runnable}
use Rattle.sk_kernel.proofs.Passing.{found, not_found, passed_by}
use Rattle.sk_kernel.proofs.asking.first_runnable.Goals as goal

pub returns-in-Some-need_to_run-clause-pid : goal.returns-in-Some-need_to_run-clause-pid
returns-in-Some-need_to_run-clause-pid g c =
    let w = g.S.ProcStore.contents c.args.store.now in
    found w c.args.after c.loop-pid.passed c.in-Some.pid c.loop-pid.invariant.above c.loop-pid.invariant.none
    (c.in-Some.ensures (is_runnable w) c.requires.others)
    (sym c.need_to_run.ensures.runs ∙ ap is_some c.in-Some-need_to_run.is)

pub loop-pid-preserved : goal.loop-pid-preserved
loop-pid-preserved g c =
    let w = g.S.ProcStore.contents c.args.store.now in
    let next = c.in-Some.ensures (is_runnable w) c.requires.others in
    record {
      above = omega (arith, c.loop-pid.invariant.above, next.0);
      none = passed_by w c.args.after c.loop-pid.passed c.in-Some.pid c.loop-pid.invariant.none next (sym c.need_to_run.ensures.runs ∙ ap is_some c.in_default-need_to_run.is);
    }

pub returns-clause-pid : goal.returns-clause-pid
returns-clause-pid g c =
    let w = g.S.ProcStore.contents c.args.store.now in
    not_found w c.args.after c.loop-pid.passed c.loop-pid.invariant.none (c.in_default.ensures (is_runnable w) c.requires.others)
