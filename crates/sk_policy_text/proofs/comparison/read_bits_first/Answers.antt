use Rattle.std.proofs.Common.{arith}
use Rattle.sk_policy_text.proofs.ConditionsValues.{one_less, refused}
use Rattle.sk_policy_text.proofs.ConditionsComparing.{bits_first_read, no_relation_of_bits, no_value_of_bits}
use Rattle.sk_policy_text.proofs.comparison.read_bits_first.Goals as goal

pub returns-in_err-relation-clause-none : goal.returns-in_err-relation-clause-none
returns-in_err-relation-clause-none c =
    refused _ _ c.in_ok-bits.behind_it.now c.args.tokens.now _ _ c.from_residual-in_err-relation.ensures.1 (omega (arith, c.in_ok-bits.ensures.shorter))
    (no_relation_of_bits c.args.tokens.now c.in_ok-bits.behind_it.now c.in_ok-bits.bits c.in_ok-bits.ensures.reads) c.in_err-relation.ensures.none

pub returns-in_err-number-clause-none : goal.returns-in_err-number-clause-none
returns-in_err-number-clause-none c =
    let less = one_less c.in_ok-bits.behind_it.now c.in_ok-relation.side.now _ c.in_ok-relation.ensures.first in
    refused _ _ c.in_ok-relation.side.now c.args.tokens.now _ _ c.from_residual-in_err-number.ensures.1 (omega (arith, less, c.in_ok-bits.ensures.shorter))
    (no_value_of_bits c.args.tokens.now c.in_ok-bits.behind_it.now c.in_ok-relation.side.now c.in_ok-bits.bits c.in_ok-relation.relation c.in_ok-bits.ensures.reads c.in_ok-relation.ensures.first)
    c.in_err-number.ensures.none

pub returns-clause-reads : goal.returns-clause-reads
returns-clause-reads c =
    bits_first_read c.args.tokens.now c.in_ok-bits.behind_it.now c.in_ok-relation.side.now c.in_ok-number.rest.now c.in_ok-number.number c.in_ok-relation.relation c.in_ok-bits.bits c.in_ok-bits.ensures.reads
    c.in_ok-relation.ensures.first c.in_ok-number.ensures.reads
