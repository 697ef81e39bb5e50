use Rattle.sk_policy_when.proofs.Making.{texts_make_filters}
use Rattle.sk_policy_when.proofs.laws.texts_make_filters.Goals as goal

pub returns : goal.returns
returns c = record { law = texts_make_filters }
