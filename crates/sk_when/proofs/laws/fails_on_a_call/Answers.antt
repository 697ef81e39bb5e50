use Rattle.sk_when.proofs.EveryCall.{fails_on_a_call}
use Rattle.sk_when.proofs.laws.fails_on_a_call.Goals as goal

pub returns : goal.returns
returns c = record { law = fails_on_a_call }
