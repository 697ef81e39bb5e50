use Rattle.sk_policy_when.proofs.Allowed as allowed
use Rattle.sk_policy_when.proofs.laws.allowing_is_policy.Goals as goal

pub returns : goal.returns
returns c = record { law = allowed.allowing_is_policy }
