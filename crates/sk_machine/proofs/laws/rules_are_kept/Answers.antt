use Rattle.sk_machine.proofs.HangingUp.{kept_ended_and_hung_up}
use Rattle.sk_machine.proofs.laws.rules_are_kept.Goals as goal

pub returns-clause-end : goal.returns-clause-end
returns-clause-end c = kept_ended_and_hung_up
