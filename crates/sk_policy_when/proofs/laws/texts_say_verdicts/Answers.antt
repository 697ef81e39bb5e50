use Rattle.sk_policy_when.proofs.Verdicts.{texts_say_verdicts}
use Rattle.sk_policy_when.proofs.laws.texts_say_verdicts.Goals as goal

pub returns : goal.returns
returns c = record { law = texts_say_verdicts }
