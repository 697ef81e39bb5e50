use Rattle.std.proofs.Common.{ap, arith, refl, inr, length, rules}
use Rattle.sk_scenario.proofs.Common.{err_from_is_err_and, lines_of}
use Rattle.sk_text.proofs.Cuts.{length_lines_of}
use Rattle.sk_scenario.proofs.Turns.{goes, fails, ends, ends_open}
use Rattle.sk_scenario.proofs.reading.read_lines.Goals as goal

pub loop-line-init : goal.loop-line-init
loop-line-init c = let fewer = length_lines_of c.args.text.now in record { few = omega (arith, fewer, c.requires.limit); same = refl; so_far = search rules }

pub returns-in_err-step : goal.returns-in_err-step
returns-in_err-step c =
    let p = err_from_is_err_and c.from_residual.result c.from_residual.ensures.1 in
    record {
      exact = rw (p.1, p.2) (fails _ _ _ _ _ _ _ (ap lines_of c.loop-line.invariant.same) c.loop-line.invariant.so_far _ _ _ c.in-Some.ensures.steps c.in_err-step.ensures.exact);
    }

pub loop-line-preserved : goal.loop-line-preserved
loop-line-preserved c =
    let one = ap length c.in-Some.ensures.steps in
    let few = c.loop-line.invariant.few in
    record {
      few = omega (arith, one, few);
      same = refl;
      so_far = goes _ _ _ _ _ _ _ (ap lines_of c.loop-line.invariant.same) c.loop-line.invariant.so_far _ _ _ c.in-Some.ensures.steps c.in_ok-step.ensures.exact;
    }

pub returns-in_err-close : goal.returns-in_err-close
returns-in_err-close c =
    let p = err_from_is_err_and c.from_residual-in_err-close.result c.from_residual-in_err-close.ensures.1 in
    record {
      exact = rw (p.1, p.2) (inr (c.in_err-close.field-0.0, refl, ends_open _ _ _ _ _ _ _ (ap lines_of c.loop-line.invariant.same) c.loop-line.invariant.so_far c.in_err-close.field-0.0 c.in_default.ensures.steps.0 c.in_err-close.ensures.exact));
    }

pub returns : goal.returns
returns c = record {
  exact = ends _ _ _ _ _ _ _ (ap lines_of c.loop-line.invariant.same) c.loop-line.invariant.so_far c.in_default.ensures.steps.0 c.in_ok-close.ensures.exact;
}
