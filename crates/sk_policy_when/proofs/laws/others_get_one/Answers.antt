use Rattle.sk_policy_when.proofs.OtherVerdicts.{others_get_one}
use Rattle.sk_policy_when.proofs.laws.others_get_one.Goals as goal

pub returns : goal.returns
returns c = record { law = others_get_one c.other_verdict_is_of_each_call.ensures.law }
