use Rattle.sk_replay.proofs.Examples.{worked_since}
use Rattle.sk_replay.proofs.laws.worked_since.Goals as goal

pub returns : goal.returns
returns c = record { law = worked_since }
