use Rattle.sk_when.proofs.FilledLines.{joining_gives_back, lines_are_within, filling_works}
use Rattle.sk_when.proofs.laws.filled_conditions.Goals as goal

pub returns : goal.returns
returns c = record { joining = joining_gives_back; within = lines_are_within; rows = filling_works }
