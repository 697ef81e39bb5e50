use Rattle.sk_show.proofs.Comers.{comers_are_found}
use Rattle.sk_show.proofs.laws.comers_are_found.Goals as goal

pub returns : goal.returns
returns c = record { law = comers_are_found }
