use Rattle.sk_survey.proofs.Unseen.{unseen_architectures}
use Rattle.sk_survey.proofs.architecture_laws.unseen_architectures.Goals as goal

pub returns : goal.returns
returns c = record { law = unseen_architectures }
