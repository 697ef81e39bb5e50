use Rattle.std.proofs.Common.{◌∙◌, ap, sym, refl}
use Rattle.sk_world.specs.Sets as set
use Rattle.sk_world.specs.SignalSet.{lowest}
use Rattle.sk_world.proofs.SetLaws.{lowest_is, lowest_none, none_in_empty}
use Rattle.sk_world.proofs.SignalSets.{least_of, none_of_zero, not_empty}
use Rattle.sk_world.proofs.signal_set.SigSet.lowest.Goals as goal

pub returns-then-is_empty-clause-value : goal.returns-then-is_empty-clause-value
returns-then-is_empty-clause-value c =
    let e = none_of_zero _ _ c.self.view_is (sym c.if-is_empty.true ∙ c.is_empty.ensures tt) in
    sym (ap lowest e ∙ lowest_none set.empty (λ q _. none_in_empty q))

pub returns-then-is_empty-clause-empty : goal.returns-then-is_empty-clause-empty
returns-then-is_empty-clause-empty c =
    (λ _. none_of_zero _ _ c.self.view_is (sym c.if-is_empty.true ∙ c.is_empty.ensures tt), λ _. refl)

pub returns-clause-least : goal.returns-clause-least
returns-clause-least c =
    least_of _ _ _ c.self.view_is (c.bits.ensures tt) (sym c.if-is_empty.false ∙ c.is_empty.ensures tt) c.self.invariant

pub returns-clause-value : goal.returns-clause-value
returns-clause-value c = sym (lowest_is c.args.self _ (returns-clause-least c))

pub returns-clause-empty : goal.returns-clause-empty
returns-clause-empty c = (λ e. cc, not_empty _ _ (returns-clause-least c))
