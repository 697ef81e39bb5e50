use Rattle.sk_policy_when.proofs.Again as again
use Rattle.sk_policy_when.proofs.laws.architectures_come_back.Goals as goal

pub returns : goal.returns
returns c = record { law = again.architectures_come_back }
