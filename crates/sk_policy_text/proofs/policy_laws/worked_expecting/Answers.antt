use Rattle.sk_policy_text.proofs.WorkedExpecting.{worked_expecting}
use Rattle.sk_policy_text.proofs.policy_laws.worked_expecting.Goals as goal

pub returns : goal.returns
returns c = record { law = worked_expecting }
