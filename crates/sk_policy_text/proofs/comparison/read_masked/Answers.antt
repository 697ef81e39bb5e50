use Rattle.std.proofs.Common.{arith}
use Rattle.sk_policy_text.proofs.ConditionsValues.{refused}
use Rattle.sk_policy_text.proofs.ConditionsComparing.{no_register_masked}
use Rattle.sk_policy_text.proofs.comparison.read_masked.Goals as goal

pub returns-in_err-register-clause-none : goal.returns-in_err-register-clause-none
returns-in_err-register-clause-none c =
    refused _ _ c.args.tokens.now c.args.tokens.now _ _ c.from_residual.ensures.1 (omega arith) (no_register_masked c.args.tokens.now) c.in_err-register.ensures.none
