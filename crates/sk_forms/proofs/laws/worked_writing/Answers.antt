use Rattle.sk_forms.proofs.Examples.{worked_writing}
use Rattle.sk_forms.proofs.laws.worked_writing.Goals as goal

pub returns : goal.returns
returns c = record { law = worked_writing }
