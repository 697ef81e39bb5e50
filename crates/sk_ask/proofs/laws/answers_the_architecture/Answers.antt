use Rattle.sk_ask.proofs.Architectures.{answers_the_architecture}
use Rattle.sk_ask.proofs.laws.answers_the_architecture.Goals as goal

pub returns : goal.returns
returns c = record { law = answers_the_architecture }
