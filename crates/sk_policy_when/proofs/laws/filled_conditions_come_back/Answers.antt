use Rattle.sk_policy_when.proofs.Filling.{filled_conditions_come_back}
use Rattle.sk_policy_when.proofs.laws.filled_conditions_come_back.Goals as goal

pub returns : goal.returns
returns c = record { law = filled_conditions_come_back }
