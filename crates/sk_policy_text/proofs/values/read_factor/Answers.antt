use Rattle.std.proofs.Common.{arith}
use Rattle.sk_policy_text.proofs.ConditionsValues.{one_less, factor_plain, factor_complement, too_great, on_ok}
use Rattle.sk_policy_text.proofs.values.read_factor.Goals as goal

pub returns-in_default-clause-reads : goal.returns-in_default-clause-reads
returns-in_default-clause-reads c =
    on_ok c.read_value.result (λ read. factor_plain c.args.tokens.now read.1.now read.0) c.read_value.ensures.reads

pub returns-then-value-lt2147483648-clause-reads : goal.returns-then-value-lt2147483648-clause-reads
returns-then-value-lt2147483648-clause-reads c =
    factor_complement c.args.tokens.now c.in-Some.inside.now c.in_ok-value.rest.now c.in_ok-value.value c.in-Some.ensures.first c.in_ok-value.ensures.reads c.if-value-lt2147483648.true

pub returns-else-value-lt2147483648-clause-none : goal.returns-else-value-lt2147483648-clause-none
returns-else-value-lt2147483648-clause-none c =
    let less = one_less c.args.tokens.now c.in-Some.inside.now _ c.in-Some.ensures.first in (
      omega (arith, less),
      too_great c.args.tokens.now c.in-Some.inside.now c.in_ok-value.rest.now c.in_ok-value.value c.in-Some.ensures.first c.in_ok-value.ensures.reads (λ small. omega (arith, small, c.if-value-lt2147483648.false)),
    )
