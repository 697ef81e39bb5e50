use Rattle.sk_policy_when.proofs.Choosing.{conditions_come_back}
use Rattle.sk_policy_when.proofs.laws.conditions_come_back.Goals as goal

pub returns : goal.returns
returns c = record { law = conditions_come_back }
