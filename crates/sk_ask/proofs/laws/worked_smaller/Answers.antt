use Rattle.sk_ask.proofs.WorkedEndings.{worked_smaller}
use Rattle.sk_ask.proofs.laws.worked_smaller.Goals as goal

pub returns : goal.returns
returns c = record { works = worked_smaller }
