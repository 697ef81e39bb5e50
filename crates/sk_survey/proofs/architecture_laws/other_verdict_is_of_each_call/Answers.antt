use Rattle.sk_survey.proofs.OtherCalls.{other_verdict_is_of_each_call}
use Rattle.sk_survey.proofs.architecture_laws.other_verdict_is_of_each_call.Goals as goal

pub returns : goal.returns
returns c = record { law = other_verdict_is_of_each_call }
