use Rattle.sk_laws.proofs.Locality.{not_queued}
use Rattle.sk_laws.proofs.world.signals_are_not_queued.Goals as goal

pub returns : goal.returns
returns c = record { law = not_queued }
