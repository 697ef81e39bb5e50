use Rattle.sk_survey.proofs.Settled.{one_verdict_is_told}
use Rattle.sk_survey.proofs.architecture_laws.one_verdict_is_told.Goals as goal

pub returns : goal.returns
returns c = record { law = one_verdict_is_told }
