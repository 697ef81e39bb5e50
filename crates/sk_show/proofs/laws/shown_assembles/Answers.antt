use Rattle.sk_show.proofs.Whole.{shown_assembles}
use Rattle.sk_show.proofs.laws.shown_assembles.Goals as goal

pub returns : goal.returns
returns c = record { law = shown_assembles }
