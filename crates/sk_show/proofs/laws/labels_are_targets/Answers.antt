use Rattle.sk_show.proofs.Targets.{labels_are_targets}
use Rattle.sk_show.proofs.laws.labels_are_targets.Goals as goal

pub returns : goal.returns
returns c = record { law = labels_are_targets }
