use Rattle.sk_survey.proofs.Chains.{chains_for_architectures}
use Rattle.sk_survey.proofs.architecture_laws.chains_for_architectures.Goals as goal

pub returns : goal.returns
returns c = record { law = chains_for_architectures }
