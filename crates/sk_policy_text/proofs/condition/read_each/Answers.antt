use Rattle.std.proofs.Common.{arith, refl, ◌≡◌, length}
use Rattle.sk_policy_text.specs.declared.token.Token.TheVariants as token
use Rattle.sk_policy_text.proofs.ConditionsValues.{one_less}
use Rattle.sk_policy_text.proofs.ConditionsDeep.{stopped, opens_on, passed_word}
use Rattle.sk_policy_text.proofs.ConditionsWhole.{each_more, each_ends, each_goes_on, no_each_first}
use Rattle.sk_policy_text.proofs.condition.read_each.Goals as goal

pub returns-in_err-rest-clause-none : goal.returns-in_err-rest-clause-none
returns-in_err-rest-clause-none c =
    let less = one_less c.loop-more.rest.now c.in-Some.more.now _ c.in-Some.ensures.first in
    stopped _ _ 64 64 c.in-Some.more.now c.args.tokens.now _ _ c.from_residual.ensures.1 (omega (arith, less, c.loop-more.invariant.shorter))
    (λ left opens. opens_on c.args.tokens.now c.in-Some.more.now left 64
    (passed_word c.args.tokens.now c.loop-more.rest.now c.in-Some.more.now token.And refl refl c.loop-more.invariant.passes c.in-Some.ensures.first) opens)
    (λ none. c.loop-more.invariant.none (no_each_first c.loop-more.rest.now c.in-Some.more.now c.in-Some.ensures.first none)) c.in_err-rest.ensures.none

pub loop-more-preserved : goal.loop-more-preserved
loop-more-preserved c =
    each_more c.args.tokens.now c.loop-more.rest.now c.in-Some.more.now c.in_ok-rest.rest.now c.args.choices.now.items c.loop-more.choices.items c.push.new.self.items (record { terms = c.read_alternative.new.terms })
    c.new-terms.result.items c.loop-more.invariant c.in-Some.ensures.first c.new-terms.ensures.items c.in_ok-rest.ensures.reads c.in_ok-push.ensures.items c.in_ok-rest.ensures.shorter

pub returns-then-is_empty-clause-reads : goal.returns-then-is_empty-clause-reads
returns-then-is_empty-clause-reads c =
    each_ends c.args.tokens.now c.loop-more.rest.now c.args.choices.now.items c.loop-more.choices.items c.loop-more.invariant (grind (arith, c.if-is_empty.true, c.is_empty.ensures))

pub returns-else-is_empty-clause-none : goal.returns-else-is_empty-clause-none
returns-else-is_empty-clause-none c = (
  c.loop-more.invariant.shorter,
  c.loop-more.invariant.none (each_goes_on c.loop-more.rest.now c.in_default.ensures.none (λ (none : length c.loop-more.rest.now ≡ 0). grind (arith, none, c.if-is_empty.false, c.is_empty.ensures))),
)
