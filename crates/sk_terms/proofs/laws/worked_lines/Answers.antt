use Rattle.sk_terms.proofs.WorkedLines.{lines_work}
use Rattle.sk_terms.proofs.laws.worked_lines.Goals as goal

pub returns : goal.returns
returns c = record { lines = lines_work }
