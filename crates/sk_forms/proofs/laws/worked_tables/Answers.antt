use Rattle.sk_forms.proofs.Examples.{worked_tables}
use Rattle.sk_forms.proofs.laws.worked_tables.Goals as goal

pub returns : goal.returns
returns c = record { law = worked_tables }
