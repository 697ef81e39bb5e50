use Rattle.sk_document.proofs.DocumentValues.{documents_are_values}
use Rattle.sk_document.proofs.laws.documents_are_values.Goals as goal

pub returns : goal.returns
returns c = record { law = documents_are_values }
