use Rattle.sk_show.proofs.Reaching.{finds_end}
use Rattle.sk_show.proofs.coming.reaches_of.Goals as goal

pub returns : goal.returns
returns c = record { found = finds_end _ _ _ _ c.in_default.ensures.cases c.loop-architecture.invariant }
