use Rattle.std.proofs.Common.{sym, ◌∙◌}
use Rattle.sk_show.proofs.Reaching.{named_none, named_some}
use Rattle.sk_show.proofs.coming.named_at.Goals as goal

pub returns-in-None : goal.returns-in-None
returns-in-None c = record { named = sym (named_none c.args.asked c.args.place c.args.reaches.now (sym c.in-None.is ∙ c.first_comer.ensures.first)) }

pub returns-in-Some : goal.returns-in-Some
returns-in-Some c = record { named = c.named_by.ensures.named ∙ sym (named_some c.args.asked _ c.args.place _ c.args.reaches.now (sym c.in-Some.is ∙ c.first_comer.ensures.first) c.comers.ensures.comers) }
