use Rattle.sk_conditions.proofs.WorkedFollowed.{followed_work}
use Rattle.sk_conditions.proofs.laws.worked_followed.Goals as goal

pub returns : goal.returns
returns c = record { followed = followed_work }
