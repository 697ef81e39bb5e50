use Rattle.std.proofs.Common.{[], arith}
use Rattle.sk_policy_text.proofs.ConditionsValues.{one_less, refused, number_left, no_number_left, no_end}
use Rattle.sk_policy_text.proofs.values.read_numbers.Goals as goal

pub returns-in_err-number-clause-none : goal.returns-in_err-number-clause-none
returns-in_err-number-clause-none c =
    let less = one_less c.loop-more.rest.now c.in-Some.more.now _ c.in-Some.ensures.first in
    refused _ _ c.in-Some.more.now c.args.tokens.now _ _ c.from_residual-in_err-number.ensures.1 (omega (arith, less, c.loop-more.invariant.shorter))
    (λ none. c.loop-more.invariant.none (no_number_left c.loop-more.rest.now c.in-Some.more.now c.in-Some.ensures.first none)) c.in_err-number.ensures.none

pub loop-more-preserved : goal.loop-more-preserved
loop-more-preserved c =
    number_left c.args.tokens.now c.loop-more.rest.now c.in-Some.more.now c.in_ok-number.next.now c.loop-more.bits c.in_ok-number.number c.loop-more.invariant c.in-Some.ensures.first c.in_ok-number.ensures.first

pub returns-in_err-end-clause-none : goal.returns-in_err-end-clause-none
returns-in_err-end-clause-none c =
    refused _ _ c.loop-more.rest.now c.args.tokens.now _ _ c.from_residual-in_err-end.ensures.1 c.loop-more.invariant.shorter
    (λ none. c.loop-more.invariant.none (no_end c.loop-more.rest.now c.in_default.ensures.none none)) c.in_err-end.ensures.none

pub returns-clause-reads : goal.returns-clause-reads
returns-clause-reads c = c.loop-more.invariant.reads [] c.in_ok-end.end.now c.in_ok-end.ensures.first
