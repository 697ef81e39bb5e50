use Rattle.sk_arguments.proofs.Narrow.{all_narrow, one_narrow}
use Rattle.sk_arguments.proofs.reading.push_narrow.Goals as goal

pub loop-nr-preserved : goal.loop-nr-preserved
loop-nr-preserved c = one_narrow _ _ _ _ _ c.loop-nr-test.true c.in_ok-push_if_narrow.ensures.pushed c.loop-nr.invariant

pub returns : goal.returns
returns c = record { pushed = all_narrow _ _ _ _ c.loop-nr-test.false c.loop-nr.invariant }
