use Rattle.std.proofs.Common.{sym, subst}
use Rattle.std.specs.List.{All}
use Rattle.std.proofs.lemmas.List.Elements.{All-nil}
use Rattle.sk_when.specs.Pieces.{IsShown}
use Rattle.sk_when.proofs.EveryCall.{nothing_apart}
use Rattle.sk_when.proofs.pieces.without_parts.Goals as goal

pub returns-clause-holds : goal.returns-clause-holds
returns-clause-holds c = λ relation programs reflexive.
    nothing_apart relation reflexive programs (record { numbers = c.args.numbers; parts = c.new.result }) c.new.ensures.items

pub returns-clause-decided : goal.returns-clause-decided
returns-clause-decided c = subst (All IsShown) (sym c.new.ensures.items) (All-nil IsShown)
