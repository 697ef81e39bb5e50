use Rattle.sk_forms.proofs.Examples.{worked_strings}
use Rattle.sk_forms.proofs.laws.worked_strings.Goals as goal

pub returns : goal.returns
returns c = record { law = worked_strings }
