use Rattle.sk_laws.proofs.Locality.{sent_touches, forced_touches, told_touches, forked_touches, ended_touches}
use Rattle.sk_laws.proofs.world.changes_are_local.Goals as goal

pub returns : goal.returns
returns c = record { signal = sent_touches; force = forced_touches; telling = told_touches; fork = forked_touches; end = ended_touches }
