use Rattle.sk_forms.proofs.Examples.{worked_macros}
use Rattle.sk_forms.proofs.laws.worked_macros.Goals as goal

pub returns : goal.returns
returns c = record { law = worked_macros }
