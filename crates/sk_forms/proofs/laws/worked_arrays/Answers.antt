use Rattle.sk_forms.proofs.Examples.{worked_arrays}
use Rattle.sk_forms.proofs.laws.worked_arrays.Goals as goal

pub returns : goal.returns
returns c = record { law = worked_arrays }
