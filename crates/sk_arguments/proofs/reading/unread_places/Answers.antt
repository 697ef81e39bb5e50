use Rattle.std.proofs.Common.{refl}
use Rattle.sk_arguments.specs.Reading.{unread_places}
use Rattle.sk_arguments.proofs.Narrow.{one_unread}
use Rattle.sk_arguments.proofs.reading.unread_places.Goals as goal

pub loop-i-init : goal.loop-i-init
unfolding unread_places
loop-i-init c = rw c.new-places.ensures.items refl

pub loop-i-preserved : goal.loop-i-preserved
loop-i-preserved c = one_unread _ _ _ _ _ c.loop-i-test.true c.in_ok-push_unread.ensures.pushed c.loop-i.invariant
