use Rattle.sk_policy_text.proofs.Places.{length_at}
use Rattle.sk_policy_text.proofs.sentences.sentence_length.Goals as goal

pub returns-in-Some-clause-length : goal.returns-in-Some-clause-length
returns-in-Some-clause-length c = length_at _ _ _ _ c.in-Some.ensures.cases.0 c.place_of_next.ensures.first
