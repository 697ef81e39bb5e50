use Rattle.sk_laws.proofs.Wrongs.{wrongs_are_refused}
use Rattle.sk_laws.proofs.worked.wrong_machines_are_refused.Goals as goal

pub returns : goal.returns
returns c = record { law = wrongs_are_refused }
