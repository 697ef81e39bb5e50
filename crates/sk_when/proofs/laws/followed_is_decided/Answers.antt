use Rattle.sk_when.proofs.EveryCall.{followed_is_decided}
use Rattle.sk_when.proofs.laws.followed_is_decided.Goals as goal

pub returns : goal.returns
returns c = record { law = followed_is_decided }
