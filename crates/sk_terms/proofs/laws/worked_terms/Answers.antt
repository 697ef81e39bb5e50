use Rattle.sk_terms.proofs.WorkedTerms.{terms_work}
use Rattle.sk_terms.proofs.laws.worked_terms.Goals as goal

pub returns : goal.returns
returns c = record { terms = terms_work }
