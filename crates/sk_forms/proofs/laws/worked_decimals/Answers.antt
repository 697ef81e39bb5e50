use Rattle.sk_forms.proofs.Examples.{worked_decimals}
use Rattle.sk_forms.proofs.laws.worked_decimals.Goals as goal

pub returns : goal.returns
returns c = record { law = worked_decimals }
