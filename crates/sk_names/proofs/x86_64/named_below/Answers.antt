use Rattle.sk_names.proofs.Numbering.{one_named, all_named}
use Rattle.sk_names.proofs.x86_64.named_below.Goals as goal

pub loop-nr-preserved : goal.loop-nr-preserved
loop-nr-preserved c = one_named _ _ _ _ _ c.loop-nr-test.true c.in_ok-push_named.ensures.pushed c.loop-nr.invariant

pub returns : goal.returns
returns c = record { all = all_named _ _ _ _ c.loop-nr-test.false c.loop-nr.invariant }
