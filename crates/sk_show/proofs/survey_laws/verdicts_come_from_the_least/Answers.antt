use Rattle.sk_show.proofs.OneSource.{verdicts_come_from_the_least}
use Rattle.sk_show.proofs.survey_laws.verdicts_come_from_the_least.Goals as goal

pub returns : goal.returns
returns c = record { law = verdicts_come_from_the_least }
