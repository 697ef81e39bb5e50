use Rattle.std.proofs.Common.{arith}
use Rattle.sk_policy_text.proofs.ConditionsValues.{one_less, refused}
use Rattle.sk_policy_text.proofs.ConditionsComparing.{value_first_read, no_relation_of_value, no_side_of_value}
use Rattle.sk_policy_text.proofs.comparison.read_number_first.Goals as goal

pub returns-in_err-relation-clause-none : goal.returns-in_err-relation-clause-none
returns-in_err-relation-clause-none c =
    refused _ _ c.in_ok-number.behind_it.now c.args.tokens.now _ _ c.from_residual-in_err-relation.ensures.1 (omega (arith, c.in_ok-number.ensures.shorter))
    (no_relation_of_value c.args.tokens.now c.in_ok-number.behind_it.now c.in_ok-number.number c.in_ok-number.ensures.reads) c.in_err-relation.ensures.none

pub returns-in_err-bits-clause-none : goal.returns-in_err-bits-clause-none
returns-in_err-bits-clause-none c =
    let less = one_less c.in_ok-number.behind_it.now c.in_ok-relation.side.now _ c.in_ok-relation.ensures.first in
    refused _ _ c.in_ok-relation.side.now c.args.tokens.now _ _ c.from_residual-in_err-bits.ensures.1 (omega (arith, less, c.in_ok-number.ensures.shorter))
    (no_side_of_value c.args.tokens.now c.in_ok-number.behind_it.now c.in_ok-relation.side.now c.in_ok-number.number c.in_ok-relation.relation c.in_ok-number.ensures.reads c.in_ok-relation.ensures.first)
    c.in_err-bits.ensures.none

pub returns-clause-reads : goal.returns-clause-reads
returns-clause-reads c =
    value_first_read c.args.tokens.now c.in_ok-number.behind_it.now c.in_ok-relation.side.now c.in_ok-bits.rest.now c.in_ok-number.number c.in_ok-relation.relation c.in_ok-bits.bits c.in_ok-number.ensures.reads
    c.in_ok-relation.ensures.first c.in_ok-bits.ensures.reads
