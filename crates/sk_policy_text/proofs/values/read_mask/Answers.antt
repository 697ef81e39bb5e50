use Rattle.std.proofs.Common.{[], arith}
use Rattle.sk_policy_text.proofs.ConditionsValues.{one_less, refused, factors_begin, factor_left, no_factor_left, no_end_of_factors}
use Rattle.sk_policy_text.proofs.values.read_mask.Goals as goal

pub loop-more-init : goal.loop-more-init
loop-more-init c =
    factors_begin c.args.tokens.now c.in_ok-first.first.now c.in_ok-mask.rest.now c.in_ok-mask.mask c.in_ok-first.ensures.first c.in_ok-mask.ensures.reads c.in_ok-mask.ensures.shorter

pub returns-in_err-factor-clause-none : goal.returns-in_err-factor-clause-none
returns-in_err-factor-clause-none c =
    let less = one_less c.loop-more.rest.now c.in-Some.more.now _ c.in-Some.ensures.first in
    refused _ _ c.in-Some.more.now c.args.tokens.now _ _ c.from_residual-in_err-factor.ensures.1 (omega (arith, less, c.loop-more.invariant.shorter))
    (λ none. c.loop-more.invariant.none (no_factor_left c.loop-more.rest.now c.in-Some.more.now c.in-Some.ensures.first none)) c.in_err-factor.ensures.none

pub loop-more-preserved : goal.loop-more-preserved
loop-more-preserved c =
    factor_left c.args.tokens.now c.loop-more.rest.now c.in-Some.more.now c.in_ok-factor.next.now c.loop-more.mask c.in_ok-factor.factor c.loop-more.invariant c.in-Some.ensures.first c.in_ok-factor.ensures.reads
    c.in_ok-factor.ensures.shorter

pub returns-in_err-end-clause-none : goal.returns-in_err-end-clause-none
returns-in_err-end-clause-none c =
    refused _ _ c.loop-more.rest.now c.args.tokens.now _ _ c.from_residual-in_err-end.ensures.1 c.loop-more.invariant.shorter
    (λ none. c.loop-more.invariant.none (no_end_of_factors c.loop-more.rest.now c.in_default.ensures.none none)) c.in_err-end.ensures.none

pub returns-clause-reads : goal.returns-clause-reads
returns-clause-reads c = c.loop-more.invariant.reads [] c.in_ok-end.end.now c.in_ok-end.ensures.first
