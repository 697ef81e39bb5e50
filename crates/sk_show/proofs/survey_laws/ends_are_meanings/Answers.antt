use Rattle.sk_show.proofs.OneSource.{ends_are_meanings}
use Rattle.sk_show.proofs.survey_laws.ends_are_meanings.Goals as goal

pub returns : goal.returns
returns c = record { law = ends_are_meanings }
