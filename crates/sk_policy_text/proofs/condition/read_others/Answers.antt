use Rattle.std.proofs.Common.{arith, ◌≡◌, length}
use Rattle.sk_policy_text.proofs.ConditionsWhole.{others_go_on}
use Rattle.sk_policy_text.proofs.condition.read_others.Goals as goal

pub returns-then-not-is_empty-clause-none : goal.returns-then-not-is_empty-clause-none
returns-then-not-is_empty-clause-none c = (
  omega (arith, c.in_ok-end.ensures.shorter),
  others_go_on c.args.tokens.now c.in_ok-end.end.now c.args.terms.items c.read_alternatives.new.terms.items c.in_ok-end.ensures.reads
      (λ (none : length c.in_ok-end.end.now ≡ 0). grind (arith, none, c.if-not-is_empty.true, c.is_empty.ensures)),
)
