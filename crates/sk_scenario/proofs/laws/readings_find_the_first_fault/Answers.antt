use Rattle.sk_scenario.proofs.Told.{fault-first, first-fault}
use Rattle.sk_scenario.proofs.laws.readings_find_the_first_fault.Goals as goal

pub returns : goal.returns
returns c = record { exact = λ text why. (fault-first text why, first-fault text why) }
