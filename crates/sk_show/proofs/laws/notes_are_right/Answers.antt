use Rattle.sk_show.proofs.InRuns.{notes_are_right}
use Rattle.sk_show.proofs.laws.notes_are_right.Goals as goal

pub returns : goal.returns
returns c = record { law = notes_are_right }
