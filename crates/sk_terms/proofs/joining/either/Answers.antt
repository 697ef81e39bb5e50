use Rattle.std.proofs.Common.{◌&&◌, not, ap, sym, ◌∙◌}
use Rattle.sk_terms.specs.Terms.{holds_term}
use Rattle.sk_terms.proofs.Together.{not_neither, or_from_neither}
use Rattle.sk_terms.proofs.joining.either.Goals as goal

pub returns-in-Some-One : goal.returns-in-Some-One
returns-in-Some-One c = record {
  either = λ call.
      c.negated.ensures.negated call
      ∙ ap not ((rw c.in-Some-One.field-0-is at c.in-Some-One.ensures.both) call
      ∙ ap (λ b. b && holds_term c.negated-not_other.result call) (c.negated-not_one.ensures.negated call)
      ∙ ap (λ b. not (holds_term c.args.one call) && b) (c.negated-not_other.ensures.negated call))
      ∙ not_neither (holds_term c.args.one call) (holds_term c.args.other call);
}

pub returns-in-Some-Never : goal.returns-in-Some-Never
returns-in-Some-Never c = record {
  either = λ call.
      c.any.ensures.any call
      ∙ sym (or_from_neither (holds_term c.args.one call) (holds_term c.args.other call)
      ((rw c.in-Some-Never.field-0-is at c.in-Some-Never.ensures.both) call
      ∙ ap (λ b. b && holds_term c.negated-not_other.result call) (c.negated-not_one.ensures.negated call)
      ∙ ap (λ b. not (holds_term c.args.one call) && b) (c.negated-not_other.ensures.negated call)));
}
