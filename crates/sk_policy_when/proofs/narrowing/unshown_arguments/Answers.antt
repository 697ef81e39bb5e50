use Rattle.std.proofs.Common.{refl}
use Rattle.sk_policy_when.specs.Narrowing.{unshown_arguments}
use Rattle.sk_policy_when.proofs.NarrowingRows.{one_unshown}
use Rattle.sk_policy_when.proofs.narrowing.unshown_arguments.Goals as goal

pub loop-place-init : goal.loop-place-init
unfolding unshown_arguments
loop-place-init c = rw c.new-places.ensures.items refl

pub loop-place-preserved : goal.loop-place-preserved
loop-place-preserved c = one_unshown _ _ _ _ _ _ c.loop-place-test.true c.in_ok-push_unshown.ensures.pushed c.loop-place.invariant
