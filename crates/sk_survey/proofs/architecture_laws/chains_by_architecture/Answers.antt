use Rattle.sk_survey.proofs.ByArchitecture.{chains_by_architecture}
use Rattle.sk_survey.proofs.architecture_laws.chains_by_architecture.Goals as goal

pub returns : goal.returns
returns c = record { law = chains_by_architecture }
