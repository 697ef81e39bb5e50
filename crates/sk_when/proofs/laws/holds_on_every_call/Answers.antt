use Rattle.sk_when.proofs.EveryCall.{holds_on_every_call}
use Rattle.sk_when.proofs.laws.holds_on_every_call.Goals as goal

pub returns : goal.returns
returns c = record { law = holds_on_every_call }
