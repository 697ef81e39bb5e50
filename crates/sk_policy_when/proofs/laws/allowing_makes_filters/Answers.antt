use Rattle.sk_policy_when.proofs.Allowed as allowed
use Rattle.sk_policy_when.proofs.laws.allowing_makes_filters.Goals as goal

pub returns : goal.returns
returns c = record { law = allowed.allowing_makes_filters }
