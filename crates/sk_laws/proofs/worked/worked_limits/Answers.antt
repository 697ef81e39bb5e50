use Rattle.sk_laws.proofs.LimitRows.{worked_limits}
use Rattle.sk_laws.proofs.worked.worked_limits.Goals as goal

pub returns : goal.returns
returns c = record { law = worked_limits }
