use Rattle.std.proofs.Common.{arith}
use Rattle.sk_policy_text.proofs.ConditionsValues.{on_ok, refused}
use Rattle.sk_policy_text.proofs.ConditionsComparing.{bits_masked, bits_whole, no_bits}
use Rattle.sk_policy_text.proofs.comparison.read_bits.Goals as goal

pub returns-in-Some-clause-reads : goal.returns-in-Some-clause-reads
returns-in-Some-clause-reads c =
    on_ok c.read_masked.result (λ read. bits_masked c.args.tokens.now c.in-Some.inside.now read.1.now read.0 c.in-Some.ensures.first) c.read_masked.ensures.reads

pub returns-in_err-register-clause-none : goal.returns-in_err-register-clause-none
returns-in_err-register-clause-none c =
    refused _ _ c.args.tokens.now c.args.tokens.now _ _ c.from_residual.ensures.1 (omega arith) (no_bits c.args.tokens.now c.in_default.ensures.none) c.in_err-register.ensures.none

pub returns-clause-reads : goal.returns-clause-reads
returns-clause-reads c =
    bits_whole c.args.tokens.now c.in_ok-register.rest.now c.in_ok-register.register c.all_bits-mask.result c.in_ok-register.ensures.first c.in_ok-register.ensures.there c.all_bits-mask.ensures.all
