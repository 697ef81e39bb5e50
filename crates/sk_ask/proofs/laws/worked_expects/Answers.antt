use Rattle.sk_ask.proofs.WorkedEndings.{worked_expects}
use Rattle.sk_ask.proofs.laws.worked_expects.Goals as goal

pub returns : goal.returns
returns c = record { works = worked_expects }
