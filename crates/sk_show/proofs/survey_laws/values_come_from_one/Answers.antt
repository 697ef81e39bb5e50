use Rattle.sk_show.proofs.OneSource.{values_come_from_one}
use Rattle.sk_show.proofs.survey_laws.values_come_from_one.Goals as goal

pub returns : goal.returns
returns c = record { law = values_come_from_one }
