use Rattle.sk_names.proofs.Listing.{one_number}
use Rattle.sk_names.proofs.runs.push_run.Goals as goal

pub loop-number-preserved : goal.loop-number-preserved
loop-number-preserved c = one_number _ _ _ _ _ c.loop-number-test.true c.in_ok-push.ensures.items c.loop-number.invariant
