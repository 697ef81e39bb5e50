use Rattle.sk_laws.proofs.HangingUp.{rights_kept}
use Rattle.sk_laws.proofs.hanging_up_sends_signals.Goals as goal

pub returns-clause-rights : goal.returns-clause-rights
returns-clause-rights c = rights_kept
