use Rattle.std.proofs.Common.{sym, subst}
use Rattle.std.specs.List.{All}
use Rattle.std.proofs.lemmas.List.Elements.{All-push}
use Rattle.sk_when.specs.Pieces.{HoldsPart}
use Rattle.sk_when.proofs.parts.add_part.Goals as goal

pub returns-clause-hold : goal.returns-clause-hold
returns-clause-hold c = λ all.
    subst (All (HoldsPart c.args.chains)) (sym c.in_ok-push.ensures.items)
    (All-push (HoldsPart c.args.chains) c.args.parts.now.items c.in-Some.part all c.in-Some.ensures.holds)
