use Rattle.sk_policy_text.proofs.ConditionsUnique.{mixed_are_none}
use Rattle.sk_policy_text.proofs.condition_laws.mixed_are_none.Goals as goal

pub returns : goal.returns
returns c = record { law = mixed_are_none }
