use Rattle.sk_show.proofs.OneSource.{runs_end_once}
use Rattle.sk_show.proofs.survey_laws.runs_end_once.Goals as goal

pub returns : goal.returns
returns c = record { law = runs_end_once }
