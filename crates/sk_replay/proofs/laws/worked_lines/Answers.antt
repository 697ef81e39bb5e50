use Rattle.sk_replay.proofs.Examples.{worked_lines}
use Rattle.sk_replay.proofs.laws.worked_lines.Goals as goal

pub returns : goal.returns
returns c = record { law = worked_lines }
