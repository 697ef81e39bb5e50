use Rattle.std.proofs.Common.{IfOk, subst}
use Rattle.sk_ask.specs.Expanding.{StandsForText}
use Rattle.sk_ask.proofs.expansion.stood_for.Goals as goal

pub returns-clause-stands : goal.returns-clause-stands
returns-clause-stands c =
    subst (λ bytes. IfOk c.of_text.result (λ it.
    StandsForText c.args.manner c.args.context.now c.args.name.now bytes it.image.items it.notes.items)) c.unmarked.ensures.text c.of_text.ensures.stands
