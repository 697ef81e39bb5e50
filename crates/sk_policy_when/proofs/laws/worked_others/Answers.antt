use Rattle.sk_policy_when.proofs.OtherVerdicts.{others_work}
use Rattle.sk_policy_when.proofs.laws.worked_others.Goals as goal

pub returns : goal.returns
returns c = record { law = others_work }
