use Rattle.sk_world.proofs.Members.{none_of_zeros}
use Rattle.sk_world.proofs.Summing.{summed-empty}
use Rattle.sk_world.proofs.Marking.{marked-empty}
use Rattle.sk_world.proofs.number_set.NumberSet.empty.Goals as goal

pub invariant_of-result : goal.invariant_of-result
invariant_of-result c = (summed-empty, marked-empty)

pub returns : goal.returns
returns c = none_of_zeros
