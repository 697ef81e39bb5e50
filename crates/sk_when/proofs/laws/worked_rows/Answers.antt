use Rattle.sk_when.proofs.WorkedRows.{rows_work}
use Rattle.sk_when.proofs.laws.worked_rows.Goals as goal

pub returns : goal.returns
returns c = record { rows = rows_work }
