use Rattle.std.proofs.Common.{arith}
use Rattle.sk_policy_text.proofs.ConditionsValues.{one_less, refused}
use Rattle.sk_policy_text.proofs.ConditionsChoosing.{range_read, no_first_of_range, no_and_of_range, no_last_of_range, no_close_of_range, makes_no_range}
use Rattle.sk_policy_text.proofs.alternatives.read_range.Goals as goal

pub returns-in_err-one-clause-none : goal.returns-in_err-one-clause-none
returns-in_err-one-clause-none c =
    refused _ _ c.args.inside.now c.args.inside.now _ _ c.from_residual.ensures.1 (omega arith) (no_first_of_range c.args.inside.now) c.in_err-one.ensures.none

pub returns-in_err-again-clause-none : goal.returns-in_err-again-clause-none
returns-in_err-again-clause-none c =
    refused _ _ c.in_ok-one.middle.now c.args.inside.now _ _ c.from_residual-in_err-again.ensures.1 (omega (arith, c.in_ok-one.ensures.shorter))
    (no_and_of_range c.args.inside.now c.in_ok-one.middle.now c.in_ok-one.one c.in_ok-one.ensures.reads) c.in_err-again.ensures.none

pub returns-in_err-other-clause-none : goal.returns-in_err-other-clause-none
returns-in_err-other-clause-none c =
    let less = one_less c.in_ok-one.middle.now c.in_ok-again.again.now _ c.in_ok-again.ensures.first in
    refused _ _ c.in_ok-again.again.now c.args.inside.now _ _ c.from_residual-in_err-other.ensures.1 (omega (arith, less, c.in_ok-one.ensures.shorter))
    (no_last_of_range c.args.inside.now c.in_ok-one.middle.now c.in_ok-again.again.now c.in_ok-one.one c.in_ok-one.ensures.reads c.in_ok-again.ensures.first) c.in_err-other.ensures.none

pub returns-in_err-rest-clause-none : goal.returns-in_err-rest-clause-none
returns-in_err-rest-clause-none c =
    let less = one_less c.in_ok-one.middle.now c.in_ok-again.again.now _ c.in_ok-again.ensures.first in
    refused _ _ c.in_ok-other.end.now c.args.inside.now _ _ c.from_residual-in_err-rest.ensures.1 (omega (arith, less, c.in_ok-one.ensures.shorter, c.in_ok-other.ensures.shorter))
    (no_close_of_range c.args.inside.now c.in_ok-one.middle.now c.in_ok-again.again.now c.in_ok-other.end.now c.in_ok-one.one c.in_ok-other.other c.in_ok-one.ensures.reads c.in_ok-again.ensures.first
    c.in_ok-other.ensures.reads)
    c.in_err-rest.ensures.none

pub returns-in-Some-clause-reads : goal.returns-in-Some-clause-reads
returns-in-Some-clause-reads c =
    range_read c.args.inside.now c.in_ok-one.middle.now c.in_ok-again.again.now c.in_ok-other.end.now c.in_ok-rest.rest.now c.in_ok-one.one c.in_ok-other.other c.in-Some.term c.in_ok-one.ensures.reads
    c.in_ok-again.ensures.first c.in_ok-other.ensures.reads c.in_ok-rest.ensures.first c.in-Some.ensures.range.0 c.in-Some.ensures.range.1

pub returns-in-None-clause-none : goal.returns-in-None-clause-none
returns-in-None-clause-none c = (
  omega arith,
  makes_no_range c.args.inside.now c.in_ok-one.middle.now c.in_ok-again.again.now c.in_ok-other.end.now c.in_ok-one.one c.in_ok-other.other c.in_ok-one.ensures.reads c.in_ok-again.ensures.first
      c.in_ok-other.ensures.reads c.in-None.ensures.none,
)
