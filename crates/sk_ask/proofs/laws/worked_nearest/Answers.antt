use Rattle.sk_ask.proofs.WorkedEndings.{worked_nearest}
use Rattle.sk_ask.proofs.laws.worked_nearest.Goals as goal

pub returns : goal.returns
returns c = record { works = worked_nearest }
