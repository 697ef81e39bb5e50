use Rattle.sk_survey.proofs.EachCall.{one_verdict_is_of_each_call}
use Rattle.sk_survey.proofs.architecture_laws.one_verdict_is_of_each_call.Goals as goal

pub returns : goal.returns
returns c = record { law = one_verdict_is_of_each_call }
