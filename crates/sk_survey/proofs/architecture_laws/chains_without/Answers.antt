use Rattle.sk_survey.proofs.Without.{chains_without}
use Rattle.sk_survey.proofs.architecture_laws.chains_without.Goals as goal

pub returns : goal.returns
returns c = record { law = chains_without }
