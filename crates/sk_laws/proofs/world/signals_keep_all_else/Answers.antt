use Rattle.sk_laws.proofs.Locality.{sent_leaves, forced_leaves}
use Rattle.sk_laws.proofs.world.signals_keep_all_else.Goals as goal

pub returns : goal.returns
returns c = record { signal = sent_leaves; force = forced_leaves }
