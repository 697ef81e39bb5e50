use Rattle.sk_forms.proofs.Examples.{worked_dumps}
use Rattle.sk_forms.proofs.laws.worked_dumps.Goals as goal

pub returns : goal.returns
returns c = record { law = worked_dumps }
