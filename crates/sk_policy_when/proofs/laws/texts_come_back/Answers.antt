use Rattle.sk_policy_when.proofs.Texting.{texts_come_back}
use Rattle.sk_policy_when.proofs.laws.texts_come_back.Goals as goal

pub returns : goal.returns
returns c = record { law = texts_come_back }
