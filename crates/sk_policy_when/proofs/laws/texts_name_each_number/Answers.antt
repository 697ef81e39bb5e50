use Rattle.sk_policy_when.proofs.Counting.{texts_name_each_number}
use Rattle.sk_policy_when.proofs.laws.texts_name_each_number.Goals as goal

pub returns : goal.returns
returns c = record { law = texts_name_each_number }
