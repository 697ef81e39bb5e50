use Rattle.sk_policy_text.proofs.Examples.{worked_sentences, wrong_sentences}
use Rattle.sk_policy_text.proofs.laws.worked_sentences.Goals as goal

pub returns-clause-right : goal.returns-clause-right
returns-clause-right c = worked_sentences

pub returns-clause-wrong : goal.returns-clause-wrong
returns-clause-wrong c = wrong_sentences
