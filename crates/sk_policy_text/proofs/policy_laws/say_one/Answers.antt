use Rattle.sk_policy_text.proofs.Singling.{say_one}
use Rattle.sk_policy_text.proofs.policy_laws.say_one.Goals as goal

pub returns : goal.returns
returns c = record { law = say_one }
