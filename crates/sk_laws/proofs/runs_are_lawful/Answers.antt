use Rattle.sk_laws.proofs.Runs.{runs_are_lawful}
use Rattle.sk_laws.proofs.runs_are_lawful.Goals as goal

pub returns : goal.returns
returns c = record { law = runs_are_lawful }
