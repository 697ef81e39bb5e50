use Rattle.sk_policy_text.proofs.Examples.{worked_words}
use Rattle.sk_policy_text.proofs.laws.worked_words.Goals as goal

pub returns : goal.returns
returns c = record { law = worked_words }
